use Rattle.spec_saves.proofs.Acknowledged.{never_fall}
use Rattle.spec_saves.proofs.acknowledged_versions_never_fall.Goals as goal

pub returns : goal.returns
returns c = never_fall
