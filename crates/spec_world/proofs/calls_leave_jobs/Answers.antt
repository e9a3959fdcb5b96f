use Rattle.spec_world.proofs.Beside.{leave-jobs}
use Rattle.spec_world.proofs.calls_leave_jobs.Goals as goal

pub returns : goal.returns
returns c = leave-jobs
