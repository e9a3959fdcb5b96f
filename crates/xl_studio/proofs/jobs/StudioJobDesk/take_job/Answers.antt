use Rattle.std.proofs.Common.{◌≡◌, Option, ap, sym, ◌∙◌, subst}
use Rattle.std.specs.Prelude.{IfSome}
use mathlib.Core.List.{IsPrefix}
use Rattle.xl_history.specs.Jobs.{Out, IsOfLatest}
use Rattle.xl_turn.specs.Seats as turns
use Rattle.xl_turn.specs.Seats.{opened_with}
use Rattle.xl_studio.specs.Seats.{base_of, front_of}
use Rattle.xl_studio.specs.Moments.{entries_in}
use Rattle.xl_studio.specs.Jobs.{out_after, IsJobOf}
use Rattle.xl_studio.proofs.Grown.{entries-prefix}
use Rattle.xl_studio.proofs.Seated.{base_entered, front_after}
use Rattle.xl_studio.proofs.Quiet.{begins_stayed, latest_after, of_front}
use Rattle.xl_studio.proofs.jobs.StudioJobDesk.take_job.Given as given
use Rattle.xl_studio.proofs.jobs.StudioJobDesk.take_job.Goals as goal
use Rattle.xl_studio.proofs.jobs.StudioJobDesk.take_job.Goals.{After-leave}

begins : (g : given.Over) (c : After-leave g) → IsPrefix (front_of c.args.seat.now) (turns.front_of c.leave.new.seat)
begins g c =
    subst (IsPrefix (front_of c.args.seat.now)) (sym c.leave.ensures.front)
    (begins_stayed _ c.enter-held.result.value c.take-taken.new.self c.enter-held.ensures.front c.take-taken.ensures.stays)

pub returns-clause-front : goal.returns-clause-front
returns-clause-front g c = begins g (goal.at.returns-clause-front g c).After-leave

pub returns-clause-begins : goal.returns-clause-begins
returns-clause-begins g c =
    entries-prefix (front_of c.args.seat.now) (turns.front_of c.leave.new.seat)
    (begins g (goal.at.returns-clause-begins g c).After-leave)

-- the lock was opened with the base of the history that was left
base : (g : given.Over) (c : After-leave g) → base_of c.args.self.now ≡ c.take-taken.new.self.core.history.base
base g c =
    base_entered (opened_with c.args.self.now.lock).core c.enter-held.result.value.core (front_of c.args.seat.now)
    c.requires.seat.seat.front.begins c.enter-held.ensures.front
    ∙ sym (ap (λ h. h.base) c.take-taken.ensures.stays.history)

-- what is out is of the last version of the front
latest : (g : given.Over) (c : After-leave g) → IfSome (out_after c.take-taken.result c.of-document.result.value)
    (IsOfLatest (base_of c.args.self.now) (entries_in (turns.front_of c.leave.new.seat)))
latest g c =
    latest_after c.take-taken.result (base_of c.args.self.now) (turns.front_of c.leave.new.seat) c.enter-held.result.value
    c.take-taken.new.self _ (base g c) c.leave.ensures.front c.take-taken.ensures.stays
    (c.of-document.ensures ∙ c.last_document.ensures) c.take-taken.ensures.taken

pub returns-clause-latest : goal.returns-clause-latest
returns-clause-latest g c =
    subst (λ (o : Option Out). IfSome o (IsOfLatest (base_of c.args.self.now) (entries_in (turns.front_of c.leave.new.seat))))
    (sym c.away.ensures) (latest g (goal.at.returns-clause-latest g c).After-leave)

pub returns-clause-seat : goal.returns-clause-seat
returns-clause-seat g c =
    let at = (goal.at.returns-clause-seat g c).After-leave in
    let seat = c.requires.seat.seat in
    let stays = c.take-taken.ensures.stays in
    let front = turns.front_of c.leave.new.seat in
    record {
      seat = record {
        of = c.leave.ensures.seat.0;
        idle = c.leave.ensures.seat.1;
        front = front_after _ _ _ _ _ _ _ c.take-taken.new.self.core seat.front (begins g at) c.leave.ensures.front (base g at)
            stays.kept.right.legal c.last_version-seen.ensures _ (c.leave.ensures.seat.0.1 ∙ sym seat.of.1);
      };
      job = subst (λ (o : Option Out). IfSome o (IsJobOf (base_of c.args.self.now) front)) (sym c.away.ensures)
          (of_front (base_of c.args.self.now) front _ (latest g at));
    }
