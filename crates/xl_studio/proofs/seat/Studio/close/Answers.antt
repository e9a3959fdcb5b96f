use Rattle.std.proofs.Common.{◌≡◌, ℕ, ◌-◌, length, ap, sym, ◌∙◌, arith}
use Rattle.xl_history.specs.Editing.{Editing}
use Rattle.xl_turn.specs.Sums.{below}
use Rattle.xl_turn.specs.Seats.{opened_with}
use Rattle.xl_turn.proofs.Fronts.{prefix_self}
use Rattle.xl_studio.specs.State.{moments_of}
use Rattle.xl_studio.proofs.Grown.{length-moments}
use Rattle.xl_studio.proofs.Seated.{shelf_entered}
use Rattle.xl_studio.proofs.seat.Studio.close.Goals as goal

pub returns-clause-made : goal.returns-clause-made
returns-clause-made g c = λ x.
    let k = c.close.result.core in
    let opened : length (moments_of (opened_with c.args.self.lock).core) ≡ 1 = sym c.requires.seat.of.1
    ∙ c.requires.seat.front.start_is in
    let whole = length-moments k.history.base k.opening k.handed k.history.entries in
    let last : length c.into_core.result.history.entries ≡ length k.history.entries =
    ap (λ (e : Editing _). length e.history.entries) c.into_core.ensures.core in
    let n : length (moments_of k) - length (moments_of (opened_with c.args.self.lock).core)
    ≡ length c.into_core.result.history.entries = omega arith in
    c.close.ensures.made x ∙ ap (λ (m : ℕ). below m x) n

pub returns-clause-opening : goal.returns-clause-opening
returns-clause-opening g c =
    let k = c.close.result.core in
    ap (λ (e : Editing _). e.opening) c.into_core.ensures.core
    ∙ sym (shelf_entered (opened_with c.args.self.lock).core k (moments_of k) c.close.ensures.opening
    (prefix_self (moments_of k)))
