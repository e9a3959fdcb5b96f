use Rattle.spec_world.proofs.StaysExact.{stays-so}
use Rattle.spec_world.proofs.slots_stay_exact.Goals as goal

pub returns : goal.returns
returns c = stays-so
