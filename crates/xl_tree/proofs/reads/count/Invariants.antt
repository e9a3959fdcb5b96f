use Rattle.std.proofs.Common.{◌≡◌, ◌+◌, ◌≤◌}
use Rattle.spec_document.specs.Forest.{size, count}
use Rattle.xl_tree.proofs.reads.count.Given as goal
use Rattle.spec_document.specs.declared.TheConstants.{MAX_NODES}

abbrev pub invariant-loop-under : goal.invariant-loop-under
invariant-loop-under g l = (l.nodes + count l.rest ≡ count l.fn.stack) × (l.nodes + size l.rest ≤ MAX_NODES)

abbrev pub decreases-loop-under : goal.decreases-loop-under
decreases-loop-under g l = size l.rest
