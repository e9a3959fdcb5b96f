use Rattle.spec_merged.proofs.Merged.{last_is_outcome}
use Rattle.spec_merged.proofs.order_of_sessions_makes_no_document.Goals as goal

pub returns : goal.returns
returns c = last_is_outcome
