use Rattle.xl_pool.proofs.Between.{leaves-between}
use Rattle.xl_pool.proofs.laws.gone_along_is_between.Goals as goal

pub returns : goal.returns
returns c = leaves-between
