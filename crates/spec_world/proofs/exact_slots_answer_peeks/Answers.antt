use Rattle.spec_world.proofs.StaysExact.{answers-so}
use Rattle.spec_world.proofs.exact_slots_answer_peeks.Goals as goal

pub returns : goal.returns
returns c = answers-so
