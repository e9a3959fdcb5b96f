use Rattle.std.proofs.Common.{◌∙◌, [], arith}
use Rattle.std.specs.Prelude.{Ok, Err}
use Rattle.xl_printed.specs.declared.reading.Unread.TheVariants.{BadLine}
use Rattle.xl_outcome.proofs.Audited.{audit_counted}
use Rattle.xl_outcome.proofs.Scripts.{counts_same, same_fits}
use Rattle.xl_outcome.proofs.Taken.{led_by_nothing}
use Rattle.xl_commands.proofs.auditing.read_source.Goals as goal

pub returns-in_default-clause-takes : goal.returns-in_default-clause-takes
returns-in_default-clause-takes g c = (([], led_by_nothing (g.S.Source.left c.args.source.now), omega arith), omega arith)

pub returns-in-Ok-read_audit-clause-reads : goal.returns-in-Ok-read_audit-clause-reads
returns-in-Ok-read_audit-clause-reads g c =
    let counts = counts_same _ _ c.args.chest.now.items _ c.deref.ensures.value c.in-Ok.ensures in
    audit_counted (g.S.Source.left c.args.source.now) _ _ (Ok c.in-Ok-read_audit.audit) (c.deref-2.ensures.value ∙ counts)
    c.in-Ok-read_audit.ensures.reads

pub returns-in-Err-BadLine-clause-reads : goal.returns-in-Err-BadLine-clause-reads
returns-in-Err-BadLine-clause-reads g c =
    let counts = counts_same _ _ c.args.chest.now.items _ c.deref.ensures.value c.in-Ok.ensures in
    audit_counted (g.S.Source.left c.args.source.now) _ _ (Err (BadLine c.in-Err-BadLine.bad)) (c.deref-2.ensures.value ∙ counts)
    (rw c.in-Err-BadLine.field-0-is at c.in-Err-BadLine.ensures.reads)

pub returns-in-Ok-read_audit-clause-fits : goal.returns-in-Ok-read_audit-clause-fits
returns-in-Ok-read_audit-clause-fits g c =
    let counts = counts_same _ _ c.args.chest.now.items _ c.deref.ensures.value c.in-Ok.ensures in
    same_fits _ _ _ (c.deref-2.ensures.value ∙ counts) c.in-Ok-read_audit.ensures.fits

pub returns-in-Ok-read_audit-clause-takes : goal.returns-in-Ok-read_audit-clause-takes
returns-in-Ok-read_audit-clause-takes g c = (c.read_audit.ensures.takes, c.read_audit.ensures.few_reads)

pub returns-in-Err-SourceFault-clause-takes : goal.returns-in-Err-SourceFault-clause-takes
returns-in-Err-SourceFault-clause-takes g c = (c.read_audit.ensures.takes, c.read_audit.ensures.few_reads)

pub returns-in-Err-BadHead-clause-takes : goal.returns-in-Err-BadHead-clause-takes
returns-in-Err-BadHead-clause-takes g c = (c.read_audit.ensures.takes, c.read_audit.ensures.few_reads)

pub returns-in-Err-BadLine-clause-takes : goal.returns-in-Err-BadLine-clause-takes
returns-in-Err-BadLine-clause-takes g c = (c.read_audit.ensures.takes, c.read_audit.ensures.few_reads)

pub returns-clause-takes : goal.returns-clause-takes
returns-clause-takes g c = (c.read_audit.ensures.takes, c.read_audit.ensures.few_reads)
