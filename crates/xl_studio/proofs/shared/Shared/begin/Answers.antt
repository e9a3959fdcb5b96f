use Rattle.std.proofs.Common.{ap}
use Rattle.xl_studio.specs.State.{State}
use Rattle.xl_studio.proofs.Started.{begun_after}
use Rattle.xl_studio.proofs.shared.Shared.begin.Goals as goal

pub returns-clause-begun : goal.returns-clause-begun
returns-clause-begun g c =
    begun_after c.begin_save-begun.result c.self.inside.core c.args.self.now.core c.begin_save-begun.new.self c.args.session
    (ap (λ (s : State _). s.core) c.self.view_is) c.self.invariant.0.each_start c.self.invariant.0.shelf_in
    c.begin_save-begun.ensures.begun
