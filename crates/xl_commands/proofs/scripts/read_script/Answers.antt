use Rattle.std.proofs.Common.{◌∙◌, arith}
use Rattle.xl_outcome.proofs.Scripts.{counts_same, read_with, same_fits}
use Rattle.xl_commands.proofs.scripts.read_script.Goals as goal

pub returns-in-Ok-parse-clause-reads : goal.returns-in-Ok-parse-clause-reads
returns-in-Ok-parse-clause-reads g c =
    let taken = c.in-Ok.ensures in
    let counts = counts_same _ _ c.args.chest.now.items _ c.deref.ensures.value c.in-Ok-filter_counts.ensures in
    read_with _ _ c.in-Ok.text.items c.deref-2.result.now c.deref-3.result.now _ _ taken.given taken.all c.deref-2.ensures.value
    (c.deref-3.ensures.value ∙ counts) c.in-Ok-parse.ensures.read

pub returns-in-Err-Refused-clause-reads : goal.returns-in-Err-Refused-clause-reads
returns-in-Err-Refused-clause-reads g c =
    let taken = c.in-Ok.ensures in
    let counts = counts_same _ _ c.args.chest.now.items _ c.deref.ensures.value c.in-Ok-filter_counts.ensures in
    let fails = rw c.in-Err-Refused.field-0-is at c.in-Err-Refused.ensures.read in
    let refused = read_with _ _ c.in-Ok.text.items c.deref-2.result.now c.deref-3.result.now _ _ taken.given taken.all
    c.deref-2.ensures.value (c.deref-3.ensures.value ∙ counts) fails in
    (refused, rw c.in-Err-Refused.field-0-is at c.in-Err-Refused.ensures.blamed)

pub returns-in-Ok-parse-clause-fits : goal.returns-in-Ok-parse-clause-fits
returns-in-Ok-parse-clause-fits g c =
    let counts = counts_same _ _ c.args.chest.now.items _ c.deref.ensures.value c.in-Ok-filter_counts.ensures in
    same_fits _ _ _ (c.deref-3.ensures.value ∙ counts) c.in-Ok-parse.ensures.fits

pub returns-in-Err-Failed-clause-takes : goal.returns-in-Err-Failed-clause-takes
returns-in-Err-Failed-clause-takes g c = (c.in-Err-Failed.ensures.some, omega (arith, c.read_all.ensures.reads))

pub returns-in-Err-Memory-clause-takes : goal.returns-in-Err-Memory-clause-takes
returns-in-Err-Memory-clause-takes g c = (c.in-Err-Memory.ensures.some, omega (arith, c.read_all.ensures.reads))

pub returns-in_default-clause-takes : goal.returns-in_default-clause-takes
returns-in_default-clause-takes g c = ((c.in-Ok.text.items, c.in-Ok.ensures.given, c.in-Ok.ensures.within), omega (arith, c.read_all.ensures.reads))

pub returns-in-Ok-parse-clause-takes : goal.returns-in-Ok-parse-clause-takes
returns-in-Ok-parse-clause-takes g c = ((c.in-Ok.text.items, c.in-Ok.ensures.given, c.in-Ok.ensures.within), omega (arith, c.read_all.ensures.reads))

pub returns-in-Err-Refused-clause-takes : goal.returns-in-Err-Refused-clause-takes
returns-in-Err-Refused-clause-takes g c = ((c.in-Ok.text.items, c.in-Ok.ensures.given, c.in-Ok.ensures.within), omega (arith, c.read_all.ensures.reads))

pub returns-clause-takes : goal.returns-clause-takes
returns-clause-takes g c = ((c.in-Ok.text.items, c.in-Ok.ensures.given, c.in-Ok.ensures.within), omega (arith, c.read_all.ensures.reads))
