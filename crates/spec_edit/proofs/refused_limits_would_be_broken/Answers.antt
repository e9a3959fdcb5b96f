use Rattle.spec_edit.proofs.PastLimits.{limit_passed}
use Rattle.spec_edit.proofs.refused_limits_would_be_broken.Goals as goal

pub returns : goal.returns
returns c = limit_passed
