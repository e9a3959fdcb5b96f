use Rattle.spec_document.specs.Forest.{size}
use Rattle.xl_pool.proofs.stacks.+add_groups.Given as goal

abbrev pub decreases-add_groups : goal.decreases-add_groups
decreases-add_groups l = size l.nodes
