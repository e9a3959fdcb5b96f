use Rattle.spec_document.specs.Forest.{size}
use Rattle.xl_doc.proofs.sums.+nodes_area.Given as goal

abbrev pub decreases-nodes_area : goal.decreases-nodes_area
decreases-nodes_area l = size l.nodes
