use Rattle.std.proofs.Common.{◌≡◌, refl, ap, sym, ◌∙◌, subst}
use mathlib.Core.List.{IsPrefix}
use Rattle.xl_history.specs.Places.{place_done}
use Rattle.xl_history.specs.Jobs.{finished_by}
use Rattle.xl_turn.specs.Seats as turns
use Rattle.xl_turn.specs.Seats.{opened_with, start_of}
use Rattle.xl_studio.specs.Moments.{entries_in}
use Rattle.xl_studio.specs.Seats.{base_of, front_of}
use Rattle.xl_studio.proofs.Seated.{back, base_entered, front_after}
use Rattle.xl_studio.proofs.Quiet.{stays_may_leave, begins_stayed, picture_entered}
use Rattle.xl_studio.proofs.Refreshed.{hands_in}
use Rattle.xl_studio.proofs.seat.Studio.hand_in.Given as given
use Rattle.xl_studio.proofs.seat.Studio.hand_in.Goals as goal
use Rattle.xl_studio.proofs.seat.Studio.hand_in.Goals.{After-leave}

pub finish-finished-requires : goal.finish-finished-requires
finish-finished-requires g c =
    let held = c.enter-held.result.value.core in
    let front = front_of c.args.seat.now in
    record {
      done = picture_entered (base_of c.args.self.now) front held c.args.done
          (base_entered (opened_with c.args.self.now.lock).core held front c.requires.seat.front.begins c.enter-held.ensures.front)
          c.requires.seat.front.legal c.enter-held.ensures.front c.requires.done;
    }

pub leave-requires-clause-may : goal.leave-requires-clause-may
leave-requires-clause-may g c =
    let one : start_of c.enter-held.new.seat ≡ 1 = c.enter-held.ensures.seat.0.1
    ∙ (sym c.requires.seat.of.1 ∙ c.requires.seat.front.start_is) in
    stays_may_leave _ _ _ c.enter-held.result.value c.finish-finished.new.self c.enter-held.ensures.entered one
    c.finish-finished.ensures.stays

-- the studio's base is that of the history
base_is : (g : given.Over) (c : After-leave g) → base_of c.args.self.now ≡ c.enter-held.result.value.core.history.base
base_is g c =
    base_entered (opened_with c.args.self.now.lock).core c.enter-held.result.value.core (front_of c.args.seat.now)
    c.requires.seat.front.begins c.enter-held.ensures.front

pub returns-clause-goes_on : goal.returns-clause-goes_on
returns-clause-goes_on g c =
    let at = (goal.at.returns-clause-goes_on g c).After-leave in
    let stays = c.finish-finished.ensures.stays in
    let begins : IsPrefix (front_of c.args.seat.now) (turns.front_of c.leave.new.seat) =
    subst (IsPrefix (front_of c.args.seat.now)) (sym c.leave.ensures.front)
    (begins_stayed _ c.enter-held.result.value c.finish-finished.new.self c.enter-held.ensures.front stays) in
    record {
      seat = record {
        of = c.leave.ensures.seat.0;
        idle = c.leave.ensures.seat.1;
        front = front_after _ _ _ _ _ _ _ c.finish-finished.new.self.core c.requires.seat.front begins c.leave.ensures.front
            (base_is g at ∙ sym (ap (λ h. h.base) stays.history)) stays.kept.right.legal c.last_version-seen.ensures _
            (c.leave.ensures.seat.0.1 ∙ sym c.requires.seat.of.1);
      };
      weight = c.leave.ensures.seat.2 ∙ c.enter-held.ensures.seat.2.weight_stays;
      job = refl;
      closed = refl;
      tally = refl;
      begins = begins;
    }

pub returns-clause-finished : goal.returns-clause-finished
returns-clause-finished g c =
    let base = base_is g (goal.at.returns-clause-finished g c).After-leave in
    let held = c.enter-held.result.value.core in
    let es : entries_in (turns.front_of c.leave.new.seat) ≡ held.history.entries =
    ap entries_in (c.leave.ensures.front ∙ c.finish-finished.ensures.stays.moments) ∙ back held in
    c.finish-finished.ensures.by_history
    ∙ (λ i. finished_by (sym base i) (sym es i) (place_done c.args.done) c.args.done.version)

pub returns-clause-handed : goal.returns-clause-handed
returns-clause-handed g c =
    hands_in (base_of c.args.self.now) (turns.front_of c.leave.new.seat) c.args.done c.finish-finished.result
    (turns.last_turn c.leave.new.seat) (turns.taken_out c.enter-held.result) c.enter-held.result.value c.finish-finished.new.self
    c.enter-held.ensures.out c.leave.ensures.turn (base_is g (goal.at.returns-clause-handed g c).After-leave) c.leave.ensures.front
    c.finish-finished.ensures.stays c.finish-finished.ensures.core c.finish-finished.ensures.closing
    c.finish-finished.ensures.finished
