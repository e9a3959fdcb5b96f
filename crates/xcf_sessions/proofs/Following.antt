-- What a session knows after a call, from what its seat knows.
use Rattle.std.proofs.Common.{◌≡◌, ℕ, Bool, true, false, List, [], ◌∷◌, ◌++◌, length, refl, ap, subst, ◌∙◌, Option}
use Rattle.std.specs.Prelude.{None, MatchBool, Result, Ok, Err, IfOk, OnErr}
use Rattle.spec_document.specs.Document.{Document}
use Rattle.spec_filters.specs.declared.FilterState.{FilterState}
use Rattle.spec_history.specs.History.{Entry, Answers, RunFrom, after_entry, asked, replay, replay_from}
use Rattle.spec_history.specs.Kept.{IsLegal}
use Rattle.spec_history.specs.Machine as machine
use Rattle.spec_history.specs.Machine.{Call, State, initial}
use Rattle.xl_calls.specs.declared.reply.Reply.{Reply}
use Rattle.xl_calls.specs.Replies.{reply_of}
use Rattle.xl_core.specs.History.{is_full}
use Rattle.xl_turn.specs.declared.view.Chronicle.{Ghosts}
use Rattle.xl_studio.specs.declared.moment.Moment.{Moment}
use Rattle.xl_studio.specs.declared.moment.Moment.TheVariants.{Made}
use Rattle.xl_studio.specs.declared.seat.Seat.{Seat}
use Rattle.xl_studio.specs.declared.seat.Studio.{Studio}
use Rattle.xl_studio.specs.Answered as studios
use Rattle.xl_studio.specs.Answered.{SeatGoesOn}
use Rattle.xl_studio.specs.Calling.{Known, IsCalled, called_entry}
use Rattle.xl_studio.specs.Calling as calling
use Rattle.xl_studio.specs.Moments.{entries_in}
use Rattle.xl_studio.specs.Seats.{base_of, known_by, opening_shelf}
use Rattle.xl_studio.specs.State.{State as Kept}
use Rattle.xl_turn.proofs.Fronts.{prefix_self}
use Rattle.xl_studio.proofs.Grown.{entries-append, entries-prefix}
use Rattle.xcf_sessions.specs.Answered.{IsAnswered, IsFilterless}
use Rattle.xcf_sessions.specs.Seen.{Seen, GoesOn, HasHeard}
use Rattle.xcf_sessions.proofs.Filterless.{no_tables}

-- the last entry of a run is one that the machine may make there
run_last : (base : Document) (s : State) (earlier es : List Entry) (session index : ℕ) (call : Call) (reply : machine.Reply)
    → RunFrom base s earlier (es ++ record { session = session; index = index; kind = asked call []; reply = reply } ∷ [])
    → Answers base (replay_from base s es) call [] reply
run_last base s earlier [] session index call reply run = run.0.1
run_last base s earlier (e ∷ es) session index call reply run =
    run_last base (after_entry base s e) (earlier ++ e ∷ []) es session index call reply run.1

module _ {K : Type 0} where
  abbrev pub seen_in : (session : ℕ) → Document → K → Known K → Seen K
  seen_in session base shelf known =
      record { session = session; base = base; entries = entries_in known.front; made = known.made; shelf = shelf }

  pub goes_on_in : (session : ℕ) (base : Document) (shelf : K) (old new : Known K) → IsLegal base (entries_in new.front)
      → GoesOn (seen_in session base shelf old) (seen_in session base shelf new)
  goes_on_in session base shelf old new legal = record { session = refl; base = refl; shelf = refl; legal = legal }

  by_room : (base : Document) (session : ℕ) (call : Call) (reply : machine.Reply) (full : Bool) (entered : List (Moment K))
      (old new : Known K) → IsLegal base (entries_in new.front)
      → MatchBool full ((reply ≡ machine.history_full) × (new.front ≡ entered) × (new.made ≡ old.made))
      ((new.front ≡ entered ++ Made (called_entry (entries_in entered) session call [] reply) None ∷ [])
      × (new.made ≡ old.made ++ length (entries_in entered) ∷ []))
      → MatchBool full ((reply ≡ machine.history_full) × (entries_in new.front ≡ entries_in entered) × (new.made ≡ old.made))
      (Answers base (replay base (entries_in entered)) call [] reply
      × (entries_in new.front ≡ entries_in entered ++ called_entry (entries_in entered) session call [] reply ∷ [])
      × (new.made ≡ old.made ++ length (entries_in entered) ∷ []))
  by_room base session call reply true entered old new legal is = (is.0, ap entries_in is.1, is.2)
  by_room base session call reply false entered old new legal is =
      let e : Entry = called_entry (entries_in entered) session call [] reply in
      let grown : entries_in new.front ≡ entries_in entered ++ e ∷ [] =
      ap entries_in is.0 ∙ entries-append entered (Made e None ∷ []) in (
        run_last base (initial base) [] (entries_in entered) session e.index call reply
            (subst (λ (es : List Entry). RunFrom base (initial base) [] es) grown legal.run),
        grown,
        is.1,
      )

  answered_in : (session : ℕ) (base : Document) (shelf : K) (call : Call) (reply : machine.Reply)
      (after : List (Option FilterState)) (bytes : List ℕ) (old new : Known K) → IsFilterless call → IsLegal base (entries_in new.front)
      → studios.IsReplied base session call [] after bytes old new reply
      → IsAnswered call reply (seen_in session base shelf old) (seen_in session base shelf new)
  answered_in session base shelf call reply after bytes old new plain legal replied =
      let called : IsCalled base session call [] reply old new =
      subst (λ (tables : List (List ℕ)). IsCalled base session call tables reply old new) (no_tables call reply plain)
      (replied.called [] tt) in
      record {
        goes_on = goes_on_in session base shelf old new legal;
        before = entries_in called.entered;
        begins = entries-prefix old.front called.entered called.begins;
        is = by_room base session call reply (is_full (record { base = base; entries = entries_in called.entered })) called.entered old
            new legal called.made;
        fresh = replied.fresh;
      }

  pub heard_in : (session : ℕ) (base : Document) (shelf : K) (old new : Known K) → IsLegal base (entries_in new.front)
      → calling.HasHeard old new → HasHeard (seen_in session base shelf old) (seen_in session base shelf new)
  heard_in session base shelf old new legal heard = record {
    goes_on = goes_on_in session base shelf old new legal;
    begins = entries-prefix old.front new.front heard.begins;
    made = heard.made;
  }

module _ {K : Type 0} {C : Ghosts (Kept K) (Moment K)} where
  -- what a session with this seat knows
  abbrev pub seen_by : (session : ℕ) → Studio K → Seat K C → Seen K
  seen_by session studio seat = seen_in session (base_of studio) (opening_shelf studio) (known_by seat)

  pub answered : {E : Type 0} (session : ℕ) (called kept : Studio K) (call : Call) (result : Result Reply E) (old new : Seat K C)
      (before after : List (Option FilterState)) (bytes bytes' : List ℕ) (steps steps' : ℕ) (was : Seen K) → called ≡ kept
      → seen_by session kept old ≡ was → before ≡ [] → IsFilterless call
      → studios.IsAnswered called session call result old new before after bytes bytes' steps steps'
      → IfOk result (λ reply. IsAnswered call (reply_of reply) was (seen_by session kept new))
  answered session called kept call (Ok reply) old new before after bytes bytes' steps steps' was same view none plain is =
      let replied = subst (λ (boxes : List (Option FilterState)). studios.IsReplied (base_of called) session call boxes after bytes'
      (known_by old) (known_by new) (reply_of reply)) none is.replied in
      subst (λ (seen : Seen K). IsAnswered call (reply_of reply) seen (seen_by session kept new)) view
      (subst (λ (s : Studio K). IsAnswered call (reply_of reply) (seen_by session s old) (seen_by session s new)) same
      (answered_in session (base_of called) (opening_shelf called) call (reply_of reply) after bytes' (known_by old) (known_by new)
      plain is.goes_on.seat.front.legal replied))
  answered session called kept call (Err e) old new before after bytes bytes' steps steps' was same view none plain is = tt

  pub heard : {E : Type 0} (R : Type 0) (session : ℕ) (called kept : Studio K) (result : Result R E) (old new : Seat K C) (was : Seen K)
      → called ≡ kept → seen_by session kept old ≡ was → SeatGoesOn called old new
      → OnErr result (calling.HasHeard (known_by old) (known_by new)) → OnErr result (HasHeard was (seen_by session kept new))
  heard R session called kept (Ok reply) old new was same view goes_on is = tt
  heard R session called kept (Err e) old new was same view goes_on is =
      subst (λ (seen : Seen K). HasHeard seen (seen_by session kept new)) view
      (subst (λ (s : Studio K). HasHeard (seen_by session s old) (seen_by session s new)) same
      (heard_in session (base_of called) (opening_shelf called) (known_by old) (known_by new) goes_on.seat.front.legal is))

-- a session that did nothing has heard nothing
pub same_heard : {K : Type 0} (seen : Seen K) → IsLegal seen.base seen.entries → HasHeard seen seen
same_heard seen legal = record {
  goes_on = record { session = refl; base = refl; shelf = refl; legal = legal };
  begins = prefix_self seen.entries;
  made = refl;
}
