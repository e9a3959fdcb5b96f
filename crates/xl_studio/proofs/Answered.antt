-- What a call came to, and a seat that goes on from one call to the next.
use Rattle.std.proofs.Common.{◌≡◌, ℕ, Bool, true, false, List, [], Option, refl, ap, ◌∙◌, subst}
use Rattle.std.specs.Prelude.{Result, Ok, Err, IfOk, if◌then◌else◌}
use Rattle.spec_document.specs.Document.{Document}
use Rattle.spec_filters.specs.declared.FilterState.{FilterState}
use Rattle.spec_history.specs.Machine.{Call, Reply, edit, undo, redo, tile, peek, top}
use Rattle.spec_history.specs.History.{asked, is_changed, latest_of}
use Rattle.spec_history.specs.Kept.{IsFreshReply}
use Rattle.spec_history.specs.Limited.{edits_of}
use Rattle.spec_tables.specs.Agrees.{Agrees, IsAfter}
use Rattle.spec_tables.specs.Tables.{edits_made, tables_for, expected_tables}
use Rattle.spec_tables.proofs.Chests.{some_list}
use Rattle.xl_history.specs.History.{Shows}
use Rattle.xl_turn.specs.declared.view.Chronicle.{Ghosts}
use Rattle.xl_turn.proofs.Fronts.{prefix_self, prefix_trans}
use Rattle.xl_studio.specs.declared.moment.Moment.{Moment}
use Rattle.xl_studio.specs.declared.seat.Seat.{Seat}
use Rattle.xl_studio.specs.declared.seat.Studio.{Studio}
use Rattle.xl_studio.specs.Answered.{SeatGoesOn, IsReplied}
use Rattle.xl_studio.specs.Calling.{Known, IsCalled}
use Rattle.xl_studio.specs.Moments.{entries_in}
use Rattle.xl_studio.specs.Seats.{history_of, front_of, IsSeatOf}
use Rattle.xl_studio.specs.State.{State}

none_either : {A : Type 0} (b : Bool) (es : List A) → es ≡ [] → (if b then es else []) ≡ []
none_either true es none = none
none_either false es none = refl

-- a call without edits has made none
none_made : (call : Call) (reply : Reply) → edits_of call ≡ [] → edits_made call reply ≡ []
none_made (edit guard es) reply none = none_either (is_changed reply) es none
none_made (undo named) reply none = refl
none_made redo reply none = refl
none_made (tile stack at) reply none = refl
none_made (peek stack at) reply none = refl
none_made top reply none = refl

module _ {K : Type 0} where
  pub replied_after : {E : Type 0} (R : Type 0) (reply_of : R → Reply) (r : Result R E) (base : Document) (session : ℕ) (call : Call)
      (before after : List (Option FilterState)) (bytes : List ℕ) (old new : Known K)
      → ((filters : List FilterState) → Agrees before filters
      → IfOk r (λ reply. IsCalled base session call (expected_tables filters (asked call []) (reply_of reply)) (reply_of reply) old new))
      → IfOk r (λ reply. IsFreshReply (latest_of (entries_in old.front)) (reply_of reply))
      → IfOk r (λ reply. Shows (history_of base new.front) call (reply_of reply) bytes)
      → IfOk r (λ reply. IsAfter before after call (reply_of reply))
      → IfOk r (λ reply. IsReplied base session call before after bytes old new (reply_of reply))
  replied_after R reply_of (Ok reply) base session call before after bytes old new called fresh shown chest = record {
    called = λ filters agrees. called filters agrees;
    made = λ none.
        let some = some_list before in
        subst (λ (tables : List (List ℕ)). IsCalled base session call tables (reply_of reply) old new)
        (ap (tables_for some.0) (none_made call (reply_of reply) none)) (called some.0 some.1);
    fresh = fresh;
    shown = shown;
    chest = chest;
  }
  replied_after R reply_of (Err e) base session call before after bytes old new called fresh shown chest = tt

  -- the tables of the call, whatever they are
  pub called_with : {base : Document} {session : ℕ} {call : Call} {before after : List (Option FilterState)} {bytes : List ℕ}
      {old new : Known K} {reply : Reply} → IsReplied base session call before after bytes old new reply
      → (tables : List (List ℕ)) × IsCalled base session call tables reply old new
  called_with {call = call} {before = before} {reply = reply} replied =
      let some = some_list before in (expected_tables some.0 (asked call []) reply, replied.called some.0 some.1)

-- ---- a seat

module _ {K : Type 0} {C : Ghosts (State K) (Moment K)} (studio : Studio K) where
  pub goes_on_same : (seat : Seat K C) → IsSeatOf studio seat → SeatGoesOn studio seat seat
  goes_on_same seat of_studio = record {
    seat = of_studio;
    weight = refl;
    job = refl;
    closed = refl;
    tally = refl;
    begins = prefix_self (front_of seat);
  }

  pub goes_on_then : (old mid new : Seat K C) → SeatGoesOn studio old mid → SeatGoesOn studio mid new
      → SeatGoesOn studio old new
  goes_on_then old mid new first second = record {
    seat = second.seat;
    weight = second.weight ∙ first.weight;
    job = second.job ∙ first.job;
    closed = second.closed ∙ first.closed;
    tally = second.tally ∙ first.tally;
    begins = prefix_trans (front_of old) (front_of mid) (front_of new) first.begins second.begins;
  }
