use Rattle.spec_document.specs.Forest.{size}
use Rattle.xl_undo.proofs.counting.+layers_alone.Given as goal

abbrev pub decreases-layers_alone : goal.decreases-layers_alone
decreases-layers_alone l = size l.nodes
