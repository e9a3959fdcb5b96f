use Rattle.spec_merged.proofs.Generated.{last_is_outcome_of_seed}
use Rattle.spec_merged.proofs.order_of_generated_sessions_makes_no_document.Goals as goal

pub returns : goal.returns
returns c = last_is_outcome_of_seed
