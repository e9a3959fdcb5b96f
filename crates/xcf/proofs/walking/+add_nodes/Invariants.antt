use Rattle.spec_document.specs.Forest.{size}
use Rattle.xcf.proofs.walking.+add_nodes.Given as goal

abbrev pub decreases-add_nodes : goal.decreases-add_nodes
decreases-add_nodes l = size l.nodes
