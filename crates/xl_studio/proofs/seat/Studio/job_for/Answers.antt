use Rattle.std.proofs.Common.{◌≡◌, refl, sym, ◌∙◌, subst}
use mathlib.Core.List.{IsPrefix}
use Rattle.xl_turn.specs.Seats as turns
use Rattle.xl_turn.specs.Seats.{opened_with, start_of}
use Rattle.xl_studio.specs.Seats.{base_of, front_of}
use Rattle.xl_studio.proofs.Seated.{base_entered, front_after}
use Rattle.xl_studio.proofs.Quiet.{stays_may_leave}
use Rattle.xl_studio.proofs.Refreshed.{job_at}
use Rattle.xl_studio.proofs.seat.Studio.job_for.Given as given
use Rattle.xl_studio.proofs.seat.Studio.job_for.Goals as goal
use Rattle.xl_studio.proofs.seat.Studio.job_for.Goals.{After-leave}

pub leave-requires-clause-may : goal.leave-requires-clause-may
leave-requires-clause-may g c =
    let one : start_of c.enter-held.new.seat ≡ 1 = c.enter-held.ensures.seat.0.1
    ∙ (sym c.requires.seat.of.1 ∙ c.requires.seat.front.start_is) in
    stays_may_leave _ _ _ c.enter-held.result.value c.enter-held.result.value c.enter-held.ensures.entered one
    c.job_for-job.ensures.stays

-- the studio's base is that of the history
base_is : (g : given.Over) (c : After-leave g) → base_of c.args.self.now ≡ c.enter-held.result.value.core.history.base
base_is g c =
    base_entered (opened_with c.args.self.now.lock).core c.enter-held.result.value.core (front_of c.args.seat.now)
    c.requires.seat.front.begins c.enter-held.ensures.front

pub returns-clause-goes_on : goal.returns-clause-goes_on
returns-clause-goes_on g c =
    let at = (goal.at.returns-clause-goes_on g c).After-leave in
    let begins : IsPrefix (front_of c.args.seat.now) (turns.front_of c.leave.new.seat) =
    subst (IsPrefix (front_of c.args.seat.now)) (sym c.leave.ensures.front) c.enter-held.ensures.front in
    record {
      seat = record {
        of = c.leave.ensures.seat.0;
        idle = c.leave.ensures.seat.1;
        front = front_after _ _ _ _ _ _ _ c.enter-held.result.value.core c.requires.seat.front begins c.leave.ensures.front
            (base_is g at) c.job_for-job.ensures.stays.kept.right.legal c.last_version-seen.ensures _
            (c.leave.ensures.seat.0.1 ∙ sym c.requires.seat.of.1);
      };
      weight = c.leave.ensures.seat.2 ∙ c.enter-held.ensures.seat.2.weight_stays;
      job = refl;
      closed = refl;
      tally = refl;
      begins = begins;
    }

pub returns-clause-made : goal.returns-clause-made
returns-clause-made g c =
    job_at c.job_for-job.result (base_of c.args.self.now) (turns.front_of c.leave.new.seat) c.enter-held.result.value.core
    c.args.node.0 c.args.at (base_is g (goal.at.returns-clause-made g c).After-leave) c.leave.ensures.front
    c.job_for-job.ensures.job
