use Rattle.spec_history.proofs.Stacks.{chained-replay}
use Rattle.spec_history.proofs.undo_and_redo_are_chained.Goals as goal

pub returns : goal.returns
returns c = chained-replay
