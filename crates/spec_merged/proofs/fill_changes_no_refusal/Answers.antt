use Rattle.spec_merged.proofs.Commuting.{no_other_refusal}
use Rattle.spec_merged.proofs.fill_changes_no_refusal.Goals as goal

pub returns : goal.returns
returns c = no_other_refusal
