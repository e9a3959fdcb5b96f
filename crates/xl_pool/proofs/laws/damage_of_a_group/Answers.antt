use Rattle.xl_pool.proofs.Joined.{group-joined}
use Rattle.xl_pool.proofs.laws.damage_of_a_group.Goals as goal

pub returns : goal.returns
returns c = group-joined
