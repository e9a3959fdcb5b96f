use Rattle.spec_merged.proofs.Ends.{last_is_save}
use Rattle.spec_merged.proofs.last_call_is_a_save.Goals as goal

pub returns : goal.returns
returns c = last_is_save
