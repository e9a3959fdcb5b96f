use Rattle.xl_history.proofs.Events.{finished_happens}
use Rattle.xl_core.proofs.state.Core.finish.Goals as goal

pub returns-clause-event : goal.returns-clause-event
returns-clause-event g c =
    finished_happens _ _ c.args.done c.install.result c.requires.done c.install.ensures.finished c.install.ensures.kept
