use Rattle.xcf.proofs.Checking.{IsSeen}
use Rattle.xcf.proofs.group.first_unplain.Given as goal

abbrev pub invariant-loop-index : goal.invariant-loop-index
invariant-loop-index l = IsSeen l.edits l.index
