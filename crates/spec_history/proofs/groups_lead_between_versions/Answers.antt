use Rattle.spec_history.proofs.Led.{led-replay}
use Rattle.spec_history.proofs.groups_lead_between_versions.Goals as goal

pub returns : goal.returns
returns c = led-replay
