use Rattle.spec_document.specs.Forest.{size}
use Rattle.xl_damage.proofs.pairs.+add_layers.Given as goal

abbrev pub decreases-add_layers : goal.decreases-add_layers
decreases-add_layers l = size l.nodes
