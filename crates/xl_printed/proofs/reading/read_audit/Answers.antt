use Rattle.std.proofs.Common.{ℕ, Some, sym, subst}
use Rattle.xl_printed.specs.Reading.{HasCause}
use Rattle.xl_printed.proofs.Sources.{audit_ended, audit_led, audit_numbers}
use Rattle.xl_printed.proofs.reading.read_audit.Goals as goal

pub returns-clause-reads : goal.returns-clause-reads
returns-clause-reads g c =
    audit_led _ _ c.in-Ok.bytes.items c.args.counts.now c.parse_audit.result c.in-Ok.ensures.given c.in-Ok.ensures.all
    (rw c.as_slice.ensures.value at c.parse_audit.ensures.reads)

pub returns-clause-ended : goal.returns-clause-ended
returns-clause-ended g c =
    audit_ended _ c.in-Ok.bytes.items c.args.counts.now c.parse_audit.result c.in-Ok.ensures.all
    (rw c.as_slice.ensures.value at c.parse_audit.ensures.reads)

pub returns-clause-numbers : goal.returns-clause-numbers
returns-clause-numbers g c = audit_numbers (Some c.as_slice.result.now) c.args.counts.now c.parse_audit.result c.parse_audit.ensures.reads

pub returns-clause-cause : goal.returns-clause-cause
returns-clause-cause g c =
    subst (λ (n : ℕ). HasCause (g.S.Source.faults c.args.source.now) n c.parse_audit.result) (sym c.in-Ok.ensures.cause)
    (c.parse_audit.ensures.cause (g.S.Source.faults c.args.source.now))

pub returns-clause-takes : goal.returns-clause-takes
returns-clause-takes g c = (c.in-Ok.bytes.items, c.in-Ok.ensures.given, c.in-Ok.ensures.within)
