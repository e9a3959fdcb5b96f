use Rattle.spec_world.proofs.Exact.{starts-exact}
use Rattle.spec_world.proofs.first_slots_are_exact.Goals as goal

pub returns : goal.returns
returns c = starts-exact
