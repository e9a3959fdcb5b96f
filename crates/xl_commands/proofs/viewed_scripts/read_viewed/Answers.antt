use Rattle.std.proofs.Common.{[], ◌∷◌, ap, arith}
use Rattle.spec_view.specs.Script.{first_session}
use Rattle.xl_outcome.proofs.Scripts.{same_fits}
use Rattle.xl_outcome.proofs.Viewed.{first_same, view_reads}
use Rattle.xl_commands.proofs.viewed_scripts.read_viewed.Goals as goal

pub returns-in-Ok-parse_viewed-clause-reads : goal.returns-in-Ok-parse_viewed-clause-reads
returns-in-Ok-parse_viewed-clause-reads g c =
    let taken = c.in-Ok.ensures in
    let count = first_same _ _ c.args.chest.now.items _ c.deref-2.ensures.value c.first_count.ensures in
    view_reads _ _ c.in-Ok.text.items c.deref.result.now _ _ _ taken.given taken.all c.deref.ensures.value count
    (ap first_session c.in-Ok-parse_viewed.ensures.read)

pub returns-in-Err-Refused-clause-reads : goal.returns-in-Err-Refused-clause-reads
returns-in-Err-Refused-clause-reads g c =
    let taken = c.in-Ok.ensures in
    let count = first_same _ _ c.args.chest.now.items _ c.deref-2.ensures.value c.first_count.ensures in
    let fails = rw c.in-Err-Refused.field-0-is at c.in-Err-Refused.ensures.read in
    let refused = view_reads _ _ c.in-Ok.text.items c.deref.result.now _ _ _ taken.given taken.all c.deref.ensures.value count
    (ap first_session fails) in
    (refused, rw c.in-Err-Refused.field-0-is at c.in-Err-Refused.ensures.blamed)

pub returns-in-Ok-parse_viewed-clause-fits : goal.returns-in-Ok-parse_viewed-clause-fits
returns-in-Ok-parse_viewed-clause-fits g c =
    let count = first_same _ _ c.args.chest.now.items _ c.deref-2.ensures.value c.first_count.ensures in
    same_fits _ _ _ (ap (λ n. n ∷ []) count) c.in-Ok-parse_viewed.ensures.fits

pub returns-in-Err-Failed-clause-takes : goal.returns-in-Err-Failed-clause-takes
returns-in-Err-Failed-clause-takes g c = (c.in-Err-Failed.ensures.some, omega (arith, c.read_all.ensures.reads))

pub returns-in-Err-Memory-clause-takes : goal.returns-in-Err-Memory-clause-takes
returns-in-Err-Memory-clause-takes g c = (c.in-Err-Memory.ensures.some, omega (arith, c.read_all.ensures.reads))

pub returns-in-Ok-parse_viewed-clause-takes : goal.returns-in-Ok-parse_viewed-clause-takes
returns-in-Ok-parse_viewed-clause-takes g c = ((c.in-Ok.text.items, c.in-Ok.ensures.given, c.in-Ok.ensures.within), omega (arith, c.read_all.ensures.reads))

pub returns-in-Err-Refused-clause-takes : goal.returns-in-Err-Refused-clause-takes
returns-in-Err-Refused-clause-takes g c = ((c.in-Ok.text.items, c.in-Ok.ensures.given, c.in-Ok.ensures.within), omega (arith, c.read_all.ensures.reads))

pub returns-clause-takes : goal.returns-clause-takes
returns-clause-takes g c = ((c.in-Ok.text.items, c.in-Ok.ensures.given, c.in-Ok.ensures.within), omega (arith, c.read_all.ensures.reads))
