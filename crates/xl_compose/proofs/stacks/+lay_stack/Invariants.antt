use Rattle.spec_document.specs.Forest.{size}
use Rattle.xl_compose.proofs.stacks.+lay_stack.Given as goal

abbrev pub decreases-lay_stack : goal.decreases-lay_stack
decreases-lay_stack g l = size l.nodes
