use Rattle.xl_read.proofs.Pointers.{NodesLeft}
use Rattle.xl_read.proofs.lists.nodes_at.Given as goal

abbrev pub invariant-loop-i : goal.invariant-loop-i
invariant-loop-i g l = NodesLeft l.file l.at l.fn.draft l.i l.draft
