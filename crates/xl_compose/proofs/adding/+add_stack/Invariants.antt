use Rattle.spec_document.specs.Forest.{size}
use Rattle.xl_compose.proofs.adding.+add_stack.Given as goal

abbrev pub decreases-add_stack : goal.decreases-add_stack
decreases-add_stack g l = size l.nodes
