use Rattle.spec_document.specs.Forest.{size}
use Rattle.xl_undo.proofs.counting.+changed_layers.Given as goal

abbrev pub decreases-changed_layers : goal.decreases-changed_layers
decreases-changed_layers l = size l.nodes
