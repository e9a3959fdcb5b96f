use Rattle.spec_saves.proofs.Staying.{stays_right}
use Rattle.spec_saves.proofs.shelf_stays_right.Goals as goal

pub returns : goal.returns
returns c = stays_right
