use Rattle.xl_pool.proofs.Back.{leads-back}
use Rattle.xl_pool.proofs.laws.change_leads_back.Goals as goal

pub returns : goal.returns
returns c = leads-back
