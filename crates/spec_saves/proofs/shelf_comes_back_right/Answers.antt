use Rattle.spec_saves.proofs.Ending.{comes_back_right}
use Rattle.spec_saves.proofs.shelf_comes_back_right.Goals as goal

pub returns : goal.returns
returns c = comes_back_right
