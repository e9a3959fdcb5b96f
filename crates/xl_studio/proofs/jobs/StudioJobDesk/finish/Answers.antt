use Rattle.std.proofs.Common.{◌≡◌, ap, sym, ◌∙◌, subst}
use mathlib.Core.List.{IsPrefix}
use Rattle.xl_history.specs.Places.{place_done}
use Rattle.xl_history.specs.Jobs.{finished_by}
use Rattle.xl_turn.specs.Seats as turns
use Rattle.xl_turn.specs.Seats.{opened_with}
use Rattle.xl_studio.specs.Moments.{entries_in}
use Rattle.xl_studio.specs.Seats.{base_of, front_of}
use Rattle.xl_studio.specs.Jobs.{job_out}
use Rattle.xl_studio.proofs.Grown.{entries-prefix}
use Rattle.xl_studio.proofs.Seated.{back, base_entered, front_after}
use Rattle.xl_studio.proofs.Quiet.{begins_stayed, picture_of}
use Rattle.xl_studio.proofs.Refreshed.{hands_in}
use Rattle.xl_studio.proofs.jobs.StudioJobDesk.finish.Given as given
use Rattle.xl_studio.proofs.jobs.StudioJobDesk.finish.Goals as goal
use Rattle.xl_studio.proofs.jobs.StudioJobDesk.finish.Goals.{After-leave}

pub finish-finished-requires : goal.finish-finished-requires
finish-finished-requires g c =
    let seat = c.requires.seat.seat in
    let held = c.enter-held.result.value.core in
    let front = front_of c.args.seat.now in
    let entered =
    base_entered (opened_with c.args.self.now.lock).core held front seat.front.begins c.enter-held.ensures.front in
    record {
      done = picture_of (base_of c.args.self.now) front held (job_out c.args.seat.now) c.args.done entered seat.front.legal
          c.enter-held.ensures.front c.requires.seat.job c.requires.done;
    }

-- the studio's base is that of the history
base_is : (g : given.Over) (c : After-leave g) → base_of c.args.self.now ≡ c.enter-held.result.value.core.history.base
base_is g c =
    base_entered (opened_with c.args.self.now.lock).core c.enter-held.result.value.core (front_of c.args.seat.now)
    c.requires.seat.seat.front.begins c.enter-held.ensures.front

begins : (g : given.Over) (c : After-leave g) → IsPrefix (front_of c.args.seat.now) (turns.front_of c.leave.new.seat)
begins g c =
    subst (IsPrefix (front_of c.args.seat.now)) (sym c.leave.ensures.front)
    (begins_stayed _ c.enter-held.result.value c.finish-finished.new.self c.enter-held.ensures.front
    c.finish-finished.ensures.stays)

pub returns-clause-front : goal.returns-clause-front
returns-clause-front g c = begins g (goal.at.returns-clause-front g c).After-leave

pub returns-clause-begins : goal.returns-clause-begins
returns-clause-begins g c =
    entries-prefix (front_of c.args.seat.now) (turns.front_of c.leave.new.seat)
    (begins g (goal.at.returns-clause-begins g c).After-leave)

pub returns-clause-seat : goal.returns-clause-seat
returns-clause-seat g c =
    let at = (goal.at.returns-clause-seat g c).After-leave in
    let seat = c.requires.seat.seat in
    let stays = c.finish-finished.ensures.stays in
    let base = base_is g at ∙ sym (ap (λ h. h.base) stays.history) in
    record {
      seat = record {
        of = c.leave.ensures.seat.0;
        idle = c.leave.ensures.seat.1;
        front = front_after _ _ _ _ _ _ _ c.finish-finished.new.self.core seat.front (begins g at) c.leave.ensures.front base
            stays.kept.right.legal c.last_version-seen.ensures _ (c.leave.ensures.seat.0.1 ∙ sym seat.of.1);
      };
      job = tt;
    }

pub returns-clause-finished : goal.returns-clause-finished
returns-clause-finished g c =
    let base = base_is g (goal.at.returns-clause-finished g c).After-leave in
    let held = c.enter-held.result.value.core in
    let stays = c.finish-finished.ensures.stays in
    let es : entries_in (turns.front_of c.leave.new.seat) ≡ held.history.entries =
    ap entries_in (c.leave.ensures.front ∙ stays.moments) ∙ back held in
    c.finish-finished.ensures.by_history
    ∙ (λ i. finished_by (sym base i) (sym es i) (place_done c.args.done) c.args.done.version)

pub returns-clause-handed : goal.returns-clause-handed
returns-clause-handed g c =
    hands_in (base_of c.args.self.now) (turns.front_of c.leave.new.seat) c.args.done c.finish-finished.result
    (turns.last_turn c.leave.new.seat) (turns.taken_out c.enter-held.result) c.enter-held.result.value c.finish-finished.new.self
    c.enter-held.ensures.out c.leave.ensures.turn (base_is g (goal.at.returns-clause-handed g c).After-leave) c.leave.ensures.front
    c.finish-finished.ensures.stays c.finish-finished.ensures.core c.finish-finished.ensures.closing
    c.finish-finished.ensures.finished
