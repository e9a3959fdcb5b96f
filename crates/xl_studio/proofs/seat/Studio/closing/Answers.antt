use Rattle.std.proofs.Common.{◌≡◌, refl, ap, sym, ◌∙◌, subst}
use mathlib.Core.List.{IsPrefix}
use Rattle.xl_turn.specs.Seats as turns
use Rattle.xl_turn.specs.Seats.{opened_with, start_of}
use Rattle.xl_studio.specs.Seats.{front_of}
use Rattle.xl_studio.proofs.Seated.{base_entered, front_after}
use Rattle.xl_studio.proofs.Quiet.{stays_may_leave, begins_stayed}
use Rattle.xl_studio.proofs.seat.Studio.closing.Goals as goal

pub leave-requires-clause-may : goal.leave-requires-clause-may
leave-requires-clause-may g c =
    let one : start_of c.enter-held.new.seat ≡ 1 = c.enter-held.ensures.seat.0.1
    ∙ (sym c.requires.seat.of.1 ∙ c.requires.seat.front.start_is) in
    stays_may_leave _ _ _ c.enter-held.result.value c.shut.new.self c.enter-held.ensures.entered one c.shut.ensures.stays

pub returns-clause-goes_on : goal.returns-clause-goes_on
returns-clause-goes_on g c =
    let base = base_entered (opened_with c.args.self.now.lock).core c.enter-held.result.value.core
    (front_of c.args.seat.now) c.requires.seat.front.begins c.enter-held.ensures.front in
    let begins : IsPrefix (front_of c.args.seat.now) (turns.front_of c.leave.new.seat) =
    subst (IsPrefix (front_of c.args.seat.now)) (sym c.leave.ensures.front)
    (begins_stayed _ c.enter-held.result.value c.shut.new.self c.enter-held.ensures.front c.shut.ensures.stays) in
    record {
      seat = record {
        of = c.leave.ensures.seat.0;
        idle = c.leave.ensures.seat.1;
        front = front_after _ _ _ _ _ _ _ c.shut.new.self.core c.requires.seat.front begins c.leave.ensures.front (base
            ∙ sym (ap (λ h. h.base) c.shut.ensures.stays.history)) c.shut.ensures.stays.kept.right.legal c.last_version-seen.ensures _
            (c.leave.ensures.seat.0.1 ∙ sym c.requires.seat.of.1);
      };
      weight = c.leave.ensures.seat.2 ∙ c.enter-held.ensures.seat.2.weight_stays;
      job = refl;
      closed = refl;
      tally = refl;
      begins = begins;
    }
