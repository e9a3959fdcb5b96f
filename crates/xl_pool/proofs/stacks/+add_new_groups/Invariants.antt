use Rattle.spec_document.specs.Forest.{size}
use Rattle.xl_pool.proofs.stacks.+add_new_groups.Given as goal

abbrev pub decreases-add_new_groups : goal.decreases-add_new_groups
decreases-add_new_groups l = size l.nodes
