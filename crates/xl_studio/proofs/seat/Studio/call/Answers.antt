use Rattle.std.proofs.Common.{◌≡◌, ℕ, List, [], refl, ap, sym, ◌∙◌, subst, arith}
use mathlib.Core.List.{IsPrefix}
use Rattle.std.specs.Prelude.{IfOk}
use Rattle.spec_history.specs.History.{asked}
use Rattle.spec_history.specs.Kept.{IsFreshReply}
use Rattle.spec_tables.specs.Tables.{expected_tables}
use Rattle.xl_calls.specs.Calls.{call_of}
use Rattle.xl_calls.specs.Replies.{reply_of}
use Rattle.xl_turn.specs.Seats as turns
use Rattle.xl_turn.specs.Seats.{opened_with, start_of, entered_by, made_after}
use Rattle.xl_studio.specs.State.{moments_of}
use Rattle.xl_studio.specs.Seats.{base_of, front_of, made_of}
use Rattle.xl_studio.proofs.Seated.{seen_entered, start_within, call_may_leave, base_entered, begins_after}
use Rattle.xl_studio.proofs.Seated.{front_after, called_after, heard_after, shown_after}
use Rattle.xl_studio.proofs.Called.{takes_none, adds_after, failed_after, calls_after, base_after}
use Rattle.xl_studio.proofs.Entered.{stepless_after, part_failed, cost_after}
use Rattle.xl_studio.proofs.Answered.{replied_after}
use Rattle.xl_studio.proofs.seat.Studio.call.Given as given
use Rattle.xl_studio.proofs.seat.Studio.call.Goals as goal
use Rattle.xl_studio.proofs.seat.Studio.call.Goals.{After-leave}

pub submit-reply-requires-clause-seen : goal.submit-reply-requires-clause-seen
submit-reply-requires-clause-seen g c κs within =
    let le = seen_entered (front_of c.args.seat.now) c.enter-held.result.value.core c.args.seat.now.seen c.enter-held.ensures.front
    c.requires.seat.front.seen_is in
    omega (arith, le)

pub leave-requires-clause-may : goal.leave-requires-clause-may
leave-requires-clause-may g c =
    let one : start_of c.enter-held.new.seat ≡ 1 = c.enter-held.ensures.seat.0.1
    ∙ (sym c.requires.seat.of.1 ∙ c.requires.seat.front.start_is) in
    call_may_leave _ _ _ (moments_of c.enter-held.result.value.core) _ c.enter-held.ensures.entered
    (start_within _ c.enter-held.result.value.core one) (calls_after c.submit-reply.ensures.core)

-- the studio's base is that of the history
base_is : (g : given.Over) (c : After-leave g) → base_of c.args.self.now ≡ c.enter-held.result.value.core.history.base
base_is g c = base_entered (opened_with c.args.self.now.lock).core c.enter-held.result.value.core
    (front_of c.args.seat.now) c.requires.seat.front.begins c.enter-held.ensures.front

base_then : (g : given.Over) (c : After-leave g) → base_of c.args.self.now ≡ c.submit-reply.new.self.core.history.base
base_then g c = base_is g c ∙ sym (base_after c.submit-reply.ensures.core)

begins : (g : given.Over) (c : After-leave g) → IsPrefix (front_of c.args.seat.now) (turns.front_of c.leave.new.seat)
begins g c =
    subst (IsPrefix (front_of c.args.seat.now)) (sym c.leave.ensures.front)
    (begins_after (front_of c.args.seat.now) (moments_of c.enter-held.result.value.core)
    (moments_of c.submit-reply.new.self.core) c.enter-held.ensures.front (calls_after c.submit-reply.ensures.core))

-- the places that the seat has made
made_then : (g : given.Over) (c : After-leave g) → turns.made_of c.leave.new.seat
    ≡ made_after (start_of c.enter-held.new.seat) (made_of c.args.seat.now) (entered_by c.enter-held.new.seat)
    (moments_of c.submit-reply.new.self.core)
made_then g c =
    c.leave.ensures.made ∙ ap (λ (made : List ℕ).
    made_after (start_of c.enter-held.new.seat) made (entered_by c.enter-held.new.seat)
    (moments_of c.submit-reply.new.self.core)) c.enter-held.ensures.seat.2.made_stays

pub returns : goal.returns
returns g c =
    let at = (goal.at.returns g c).After-leave in
    let told = c.submit-reply.ensures in
    let base = base_of c.args.self.now in
    let held = c.enter-held.result.value.core in
    let left = c.submit-reply.new.self.core in
    let call = call_of c.args.call in
    let session = c.args.session in
    let one : start_of c.enter-held.new.seat ≡ 1 = c.enter-held.ensures.seat.0.1
    ∙ (sym c.requires.seat.of.1 ∙ c.requires.seat.front.start_is) in
    record {
      goes_on = record {
        seat = record {
          of = c.leave.ensures.seat.0;
          idle = c.leave.ensures.seat.1;
          front = front_after _ _ _ _ _ _ _ left c.requires.seat.front (begins g at) c.leave.ensures.front
              (base_then g at) told.kept.right.legal c.version-seen.ensures _
              (c.leave.ensures.seat.0.1 ∙ sym c.requires.seat.of.1);
        };
        weight = c.leave.ensures.seat.2 ∙ c.enter-held.ensures.seat.2.weight_stays;
        job = refl;
        closed = refl;
        tally = refl;
        begins = begins g at;
      };
      replied = replied_after _ reply_of c.submit-reply.result base session call _ _ _ _ _
          (λ filters agrees.
          called_after _ reply_of (λ reply. expected_tables filters (asked call []) (reply_of reply))
          c.submit-reply.result base session call _ _ (start_of c.enter-held.new.seat) held (entered_by c.enter-held.new.seat)
          (moments_of left) one c.enter-held.ensures.entered (base_is g at) c.enter-held.ensures.front c.leave.ensures.front
          (made_then g at) (adds_after told.core filters agrees))
          (subst (λ (seen : ℕ). IfOk c.submit-reply.result (λ reply. IsFreshReply seen (reply_of reply)))
          c.requires.seat.front.seen_is told.fresh)
          (shown_after _ reply_of c.submit-reply.result base _ left call _ (base_then g at) c.leave.ensures.front told.core.shown)
          told.core.chest;
      failed = heard_after c.submit-reply.result _ _ (start_of c.enter-held.new.seat) (entered_by c.enter-held.new.seat)
          (moments_of held) (moments_of left) c.enter-held.ensures.entered c.enter-held.ensures.front c.leave.ensures.front
          (made_then g at) (failed_after told.core);
      part = part_failed told.core base _ (base_is g at) c.leave.ensures.front;
      steps = λ none. told.core.steps (takes_none held.cache call none);
      no_step = stepless_after told.core base _ (base_is g at) c.leave.ensures.front;
      cost = cost_after told.core base _ (base_is g at) c.leave.ensures.front;
      served = told.core.served;
    }
