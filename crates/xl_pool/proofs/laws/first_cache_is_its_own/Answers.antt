use Rattle.xl_pool.proofs.Back.{begins}
use Rattle.xl_pool.proofs.laws.first_cache_is_its_own.Goals as goal

pub returns : goal.returns
returns c = begins
