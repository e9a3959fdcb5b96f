use Rattle.xl_printed.proofs.Merges.{AreCounted}
use Rattle.xl_printed.proofs.merging.Merging.has_all.Given as goal

abbrev pub invariant-loop-session : goal.invariant-loop-session
invariant-loop-session l = AreCounted l.self.nexts l.saves l.session
