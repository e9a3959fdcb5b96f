use Rattle.std.proofs.Common.{sym, ap, ◌∙◌, ◌+◌, length}
use Rattle.xl_studio.specs.State.{State}
use Rattle.xl_studio.proofs.Grown.{length-moments}
use Rattle.xl_studio.proofs.shared.SharedChronicle.len.Goals as goal

pub returns : goal.returns
returns g c =
    c.self.invariant.1 ∙ (ap (λ (s : State _). length s.core.history.entries + 1) c.self.view_is
    ∙ sym (let k = c.args.self.now.core in length-moments k.history.base k.opening k.handed k.history.entries))
