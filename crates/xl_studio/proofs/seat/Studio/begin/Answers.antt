use Rattle.std.proofs.Common.{◌≡◌, ℕ, List, refl, ap, sym, ◌∙◌, subst}
use mathlib.Core.List.{IsPrefix}
use Rattle.xl_turn.specs.Seats as turns
use Rattle.xl_turn.specs.Seats.{opened_with, start_of, made_after}
use Rattle.xl_studio.specs.State.{moments_of}
use Rattle.xl_studio.specs.Seats.{base_of, opening_shelf, front_of, made_of, known_by}
use Rattle.xl_studio.proofs.Seated.{start_within, base_entered, shelf_entered, front_after}
use Rattle.xl_studio.proofs.FirstHold.{GrowsByStart, grows_by_start, start_may_leave, begins_with, begun_first}
use Rattle.xl_studio.proofs.seat.Studio.begin.Given as given
use Rattle.xl_studio.proofs.seat.Studio.begin.Goals as goal
use Rattle.xl_studio.proofs.seat.Studio.begin.Goals.{After-leave}

pub leave-requires-clause-may : goal.leave-requires-clause-may
leave-requires-clause-may g c =
    let held = c.enter-held.result.value.core in
    let one : start_of c.enter-held.new.seat ≡ 1 = c.enter-held.ensures.seat.0.1
    ∙ (sym c.requires.seat.of.1 ∙ c.requires.seat.front.start_is) in
    start_may_leave _ _ _ (moments_of held) _ c.enter-held.ensures.entered (start_within _ held one)
    (grows_by_start c.begin-begun.result held.history.base (moments_of held)
    (moments_of c.begin-begun.new.self.core) c.args.session c.begin-begun.ensures.begun c.begin-begun.ensures.failed)

base_is : (g : given.Over) (c : After-leave g) → base_of c.args.self.now ≡ c.enter-held.result.value.core.history.base
base_is g c = base_entered (opened_with c.args.self.now.lock).core c.enter-held.result.value.core
    (front_of c.args.seat.now) c.requires.seat.front.begins c.enter-held.ensures.front

grows : (g : given.Over) (c : After-leave g)
    → GrowsByStart (moments_of c.enter-held.result.value.core) (moments_of c.begin-begun.new.self.core)
grows g c =
    let held = c.enter-held.result.value.core in
    grows_by_start c.begin-begun.result held.history.base (moments_of held)
    (moments_of c.begin-begun.new.self.core) c.args.session c.begin-begun.ensures.begun c.begin-begun.ensures.failed

begins : (g : given.Over) (c : After-leave g) → IsPrefix (front_of c.args.seat.now) (turns.front_of c.leave.new.seat)
begins g c =
    subst (IsPrefix (front_of c.args.seat.now)) (sym c.leave.ensures.front)
    (begins_with (front_of c.args.seat.now) (moments_of c.enter-held.result.value.core)
    (moments_of c.begin-begun.new.self.core) c.enter-held.ensures.front (grows g c))

pub returns-clause-goes_on : goal.returns-clause-goes_on
returns-clause-goes_on g c =
    let at = (goal.at.returns-clause-goes_on g c).After-leave in
    record {
      seat = record {
        of = c.leave.ensures.seat.0;
        idle = c.leave.ensures.seat.1;
        front = front_after _ _ _ _ _ _ _ c.begin-begun.new.self.core c.requires.seat.front (begins g at) c.leave.ensures.front
            (base_is g at ∙ sym c.begin-begun.ensures.base) c.begin-begun.ensures.kept.right.legal
            c.version-seen.ensures _ (c.leave.ensures.seat.0.1 ∙ sym c.requires.seat.of.1);
      };
      weight = c.leave.ensures.seat.2 ∙ c.enter-held.ensures.seat.2.weight_stays;
      job = refl;
      closed = refl;
      tally = refl;
      begins = begins g at;
    }

pub returns-clause-begun : goal.returns-clause-begun
returns-clause-begun g c =
    let at = (goal.at.returns-clause-begun g c).After-leave in
    let held = c.enter-held.result.value.core in
    let left = moments_of c.begin-begun.new.self.core in
    let start = start_of c.args.seat.now.seat in
    let same : start_of c.enter-held.new.seat ≡ start = c.enter-held.ensures.seat.0.1 ∙ sym c.requires.seat.of.1 in
    begun_first g.D.Shelf.shelf_state held c.args.session
    (known_by c.args.seat.now) _ start c.requires.seat.front.start_is c.enter-held.ensures.front
    c.begin-begun.ensures.legal c.enter-held.ensures.within left c.leave.ensures.front
    (c.leave.ensures.made
    ∙ (ap (λ (made : List ℕ). made_after (start_of c.enter-held.new.seat) made (turns.entered_by c.enter-held.new.seat) left)
    c.enter-held.ensures.seat.2.made_stays
    ∙ (ap (λ (n : ℕ). made_after n (made_of c.args.seat.now) (turns.entered_by c.enter-held.new.seat) left) same
    ∙ ap (λ (ms : List _). made_after start (made_of c.args.seat.now) ms left) c.enter-held.ensures.entered)))
    c.begin-begun.result (opening_shelf c.args.self.now) (base_of c.args.self.now)
    (shelf_entered (opened_with c.args.self.now.lock).core held
    (front_of c.args.seat.now) c.requires.seat.front.begins c.enter-held.ensures.front)
    (base_is g at) c.begin-begun.ensures.begun c.begin-begun.ensures.hands
