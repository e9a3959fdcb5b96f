use Rattle.std.proofs.Common.{sym, subst}
use Rattle.spec_world.specs.Events.{takes}
use Rattle.xl_history.specs.Editing.{Happens}
use Rattle.xl_history.proofs.Events.{taken_happens}
use Rattle.xl_core.proofs.state.Core.take_job.Goals as goal

pub returns-clause-event : goal.returns-clause-event
returns-clause-event g c =
    subst (λ e. Happens c.args.self.now takes e) (sym c.next_job.ensures.after) (taken_happens c.args.self.now)
