use Rattle.xl_read.proofs.Payloads.{Passed}
use Rattle.xl_read.proofs.kept.within.Given as goal

abbrev pub invariant-loop-i : goal.invariant-loop-i
invariant-loop-i l = Passed l.before l.property-items l.places l.i l.total
