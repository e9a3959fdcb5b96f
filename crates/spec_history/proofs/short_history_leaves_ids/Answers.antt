use Rattle.spec_history.proofs.VersionsLimited.{short_next}
use Rattle.spec_history.proofs.short_history_leaves_ids.Goals as goal

pub returns : goal.returns
returns c = short_next
