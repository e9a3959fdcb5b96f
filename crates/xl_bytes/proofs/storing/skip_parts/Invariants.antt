use Rattle.xl_bytes.proofs.Parts.{Skipped}
use Rattle.xl_bytes.proofs.storing.skip_parts.Given as goal

abbrev pub invariant-loop-k : goal.invariant-loop-k
invariant-loop-k l = Skipped l.n l.k l.left l.initial.parts l.parts
