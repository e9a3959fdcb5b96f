use Rattle.std.proofs.Common.{◌≡◌, ℕ, List, refl, ap, sym, ◌∙◌, subst}
use mathlib.Core.List.{IsPrefix}
use Rattle.xl_calls.specs.Replies.{reply_of}
use Rattle.xl_turn.specs.Seats as turns
use Rattle.xl_turn.specs.Seats.{opened_with, start_of, made_after}
use Rattle.xl_studio.specs.Moments.{closed_by}
use Rattle.xl_studio.specs.State.{moments_of}
use Rattle.xl_studio.specs.Seats.{base_of, opening_shelf, front_of, made_of, known_by}
use Rattle.xl_studio.proofs.Seated.{base_entered, shelf_entered, front_after}
use Rattle.xl_studio.proofs.SecondHold.{is_out, may_come_back, end_may_leave, begins_after_end, has_ended}
use Rattle.xl_studio.proofs.seat.Studio.end.Given as given
use Rattle.xl_studio.proofs.seat.Studio.end.Goals as goal
use Rattle.xl_studio.proofs.seat.Studio.end.Goals.{After-leave}

pub end-reply-requires-clause-out : goal.end-reply-requires-clause-out
end-reply-requires-clause-out g c κs within =
    is_out (base_of c.args.self.now) c.args.session c.requires.back.handed
    (known_by c.args.seat.now) c.requires.back.out c.requires.seat.front.legal c.enter-held.result.value.core
    (base_entered (opened_with c.args.self.now.lock).core c.enter-held.result.value.core
    (front_of c.args.seat.now) c.requires.seat.front.begins c.enter-held.ensures.front) c.enter-held.ensures.front
    c.know_kept.ensures (start_of c.args.seat.now.seat) c.requires.seat.front.start_is c.enter-held.ensures.closed

pub end-reply-requires-clause-returns : goal.end-reply-requires-clause-returns
end-reply-requires-clause-returns g c κs within =
    may_come_back (base_of c.args.self.now) c.args.session c.requires.back.handed
    (known_by c.args.seat.now) c.requires.back.out c.requires.seat.front.legal c.enter-held.result.value.core
    (base_entered (opened_with c.args.self.now.lock).core c.enter-held.result.value.core
    (front_of c.args.seat.now) c.requires.seat.front.begins c.enter-held.ensures.front) c.enter-held.ensures.front
    c.know_kept.ensures (start_of c.args.seat.now.seat) c.requires.seat.front.start_is c.enter-held.ensures.closed
    g.D.Shelf.shelf_state
    (opening_shelf c.args.self.now) c.args.how c.args.shelf
    (shelf_entered (opened_with c.args.self.now.lock).core c.enter-held.result.value.core
    (front_of c.args.seat.now) c.requires.seat.front.begins c.enter-held.ensures.front) c.requires.back.returns

pub leave-requires-clause-may : goal.leave-requires-clause-may
leave-requires-clause-may g c =
    let same : start_of c.args.seat.now.seat ≡ start_of c.enter-held.new.seat = c.requires.seat.of.1
    ∙ sym c.enter-held.ensures.seat.0.1 in
    subst (λ (n : ℕ). turns.MayLeave closed_by n (turns.made_of c.enter-held.new.seat) (turns.entered_by c.enter-held.new.seat)
    (moments_of c.end-reply.new.self.core)) same
    (end_may_leave (base_of c.args.self.now) c.args.session c.requires.back.handed
    (known_by c.args.seat.now) c.requires.back.out c.requires.seat.front.legal c.enter-held.result.value.core
    (base_entered (opened_with c.args.self.now.lock).core c.enter-held.result.value.core
    (front_of c.args.seat.now) c.requires.seat.front.begins c.enter-held.ensures.front) c.enter-held.ensures.front
    c.know_kept.ensures (start_of c.args.seat.now.seat) c.requires.seat.front.start_is c.enter-held.ensures.closed
    c.args.how (reply_of c.end-reply.result) (turns.made_of c.enter-held.new.seat) (turns.entered_by c.enter-held.new.seat)
    (moments_of c.end-reply.new.self.core) c.enter-held.ensures.entered c.enter-held.ensures.seat.2.made_stays
    c.end-reply.ensures.ended)

begins : (g : given.Over) (c : After-leave g) → IsPrefix (front_of c.args.seat.now) (turns.front_of c.leave.new.seat)
begins g c =
    begins_after_end (base_of c.args.self.now) c.args.session c.requires.back.handed
    (known_by c.args.seat.now) c.requires.back.out c.requires.seat.front.legal c.enter-held.result.value.core
    (base_entered (opened_with c.args.self.now.lock).core c.enter-held.result.value.core
    (front_of c.args.seat.now) c.requires.seat.front.begins c.enter-held.ensures.front) c.enter-held.ensures.front
    c.know_kept.ensures (start_of c.args.seat.now.seat) c.requires.seat.front.start_is c.enter-held.ensures.closed
    c.args.how (reply_of c.end-reply.result) _ _ c.end-reply.ensures.ended c.leave.ensures.front

pub returns-clause-goes_on : goal.returns-clause-goes_on
returns-clause-goes_on g c =
    let at = (goal.at.returns-clause-goes_on g c).After-leave in
    record {
      seat = record {
        of = c.leave.ensures.seat.0;
        idle = c.leave.ensures.seat.1;
        front = front_after _ _ _ _ _ _ _ c.end-reply.new.self.core c.requires.seat.front (begins g at) c.leave.ensures.front
            (base_entered (opened_with c.args.self.now.lock).core c.enter-held.result.value.core
            (front_of c.args.seat.now) c.requires.seat.front.begins c.enter-held.ensures.front ∙ sym c.end-reply.ensures.base)
            c.end-reply.ensures.kept.right.legal c.version-seen.ensures _ (c.leave.ensures.seat.0.1 ∙ sym c.requires.seat.of.1);
      };
      weight = c.leave.ensures.seat.2 ∙ c.enter-held.ensures.seat.2.weight_stays;
      job = refl;
      closed = refl;
      tally = refl;
      begins = begins g at;
    }

pub returns-clause-ended : goal.returns-clause-ended
returns-clause-ended g c =
    let left = moments_of c.end-reply.new.self.core in
    let start = start_of c.args.seat.now.seat in
    let same : start_of c.enter-held.new.seat ≡ start = c.enter-held.ensures.seat.0.1 ∙ sym c.requires.seat.of.1 in
    has_ended (base_of c.args.self.now) c.args.session c.requires.back.handed
    (known_by c.args.seat.now) c.requires.back.out c.requires.seat.front.legal c.enter-held.result.value.core
    (base_entered (opened_with c.args.self.now.lock).core c.enter-held.result.value.core
    (front_of c.args.seat.now) c.requires.seat.front.begins c.enter-held.ensures.front) c.enter-held.ensures.front
    c.know_kept.ensures start c.requires.seat.front.start_is c.enter-held.ensures.closed
    c.args.how (reply_of c.end-reply.result) _ left c.end-reply.ensures.ended c.leave.ensures.front
    (c.leave.ensures.made
    ∙ (ap (λ (made : List ℕ). made_after (start_of c.enter-held.new.seat) made (turns.entered_by c.enter-held.new.seat) left)
    c.enter-held.ensures.seat.2.made_stays
    ∙ (ap (λ (n : ℕ). made_after n (made_of c.args.seat.now) (turns.entered_by c.enter-held.new.seat) left) same
    ∙ ap (λ (ms : List _). made_after start (made_of c.args.seat.now) ms left) c.enter-held.ensures.entered)))
