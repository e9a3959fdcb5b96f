use Rattle.spec_merged.proofs.Commuting.{commute}
use Rattle.spec_merged.proofs.fills_of_two_layers_commute.Goals as goal

pub returns : goal.returns
returns c = commute
