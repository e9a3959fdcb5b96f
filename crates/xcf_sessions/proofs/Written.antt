-- What a session knows after a save, from what its seat knows.
use Rattle.std.proofs.Common.{◌≡◌, ℕ, List, [], ◌∷◌, ◌++◌, sym, ap, subst, ◌∙◌, inl, inr, true≢false}
use Rattle.std.specs.Prelude.{None, Some, ◌⊎◌, Option, is_some, Err}
use Rattle.spec_document.specs.Document.{Document}
use Rattle.spec_history.specs.History.{Entry}
use Rattle.spec_history.specs.Kept.{IsLegal}
use Rattle.spec_history.specs.Machine.{Reply}
use Rattle.xl_ports.specs.State.{ShelfState}
use Rattle.xl_studio.specs.declared.moment.Moment.{Moment}
use Rattle.xl_studio.specs.declared.moment.Moment.TheVariants.{Made}
use Rattle.xl_turn.specs.declared.view.Chronicle.{Ghosts}
use Rattle.xl_studio.specs.declared.seat.Seat.{Seat}
use Rattle.xl_studio.specs.declared.seat.Studio.{Studio}
use Rattle.xl_studio.specs.Answered.{SeatGoesOn}
use Rattle.xl_studio.specs.Calling.{Known, HasHeard}
use Rattle.xl_studio.specs.Seats.{base_of, known_by, opening_shelf}
use Rattle.xl_studio.specs.State.{State as Kept}
use Rattle.xl_studio.specs.Moments.{entries_in}
use Rattle.xl_studio.specs.Saving.{FoundNoRoom, IsWhole, IsSaved}
use Rattle.xl_studio.proofs.Grown.{entries-append, entries-prefix}
use Rattle.xcf_sessions.specs.Replies.{IsOfSave}
use Rattle.xcf_sessions.specs.Saved.{FindsNoRoom, IsMade, IsSaveTold}
use Rattle.xcf_sessions.specs.Seen.{Seen}
use Rattle.xcf_sessions.proofs.Following.{goes_on_in, heard, heard_in, seen_by, seen_in}
use Rattle.xcf_sessions.proofs.Outcomes.{ends_save}

module _ {K : Type 0} where
  -- the entries of a start, of what came in between, and of the end
  entries_between : (entered between : List (Moment K)) (start end : Entry) (shelf : Option K)
      → entries_in (entered ++ Made start shelf ∷ [] ++ between ++ Made end None ∷ [])
      ≡ entries_in entered ++ start ∷ [] ++ entries_in between ++ end ∷ []
  entries_between entered between start end shelf =
      let begun = entered ++ Made start shelf ∷ [] in
      entries-append (begun ++ between) (Made end None ∷ [])
      ∙ ap (λ (es : List Entry). es ++ end ∷ []) (entries-append begun between
      ∙ ap (λ (es : List Entry). es ++ entries_in between) (entries-append entered (Made start shelf ∷ [])))

  no_room : (session : ℕ) (base : Document) (shelf : K) (reply : Reply) (old new : Known K) → IsLegal base (entries_in new.front)
      → FoundNoRoom base reply old new → FindsNoRoom reply (seen_in session base shelf old) (seen_in session base shelf new)
  no_room session base shelf reply old new legal found = record {
    reply_is = found.reply_is;
    heard = heard_in session base shelf old new legal (record { begins = found.begins; made = found.made });
    few = found.few;
  }

  made : (see : K → ShelfState) (session : ℕ) (base : Document) (shelf : K) (reply : Reply) (old new : Known K)
      → IsLegal base (entries_in new.front) → IsWhole see shelf base session reply old new
      → IsMade see reply (seen_in session base shelf old) (seen_in session base shelf new)
  made see session base shelf reply old new legal whole = record {
    goes_on = goes_on_in session base shelf old new legal;
    before = entries_in whole.entered;
    between = entries_in whole.between;
    how = whole.how;
    handed = whole.shelf;
    back = whole.back;
    begins = entries-prefix old.front whole.entered whole.begins;
    calls = whole.calls;
    right = whole.right;
    returns = whole.returns;
    closed = whole.closed;
    reply_is = whole.reply_is;
    entries = ap entries_in whole.front ∙ entries_between whole.entered whole.between _ _ (Some whole.shelf);
    made = whole.made;
  }

  pub saved_in : (see : K → ShelfState) (session : ℕ) (base : Document) (shelf : K) (reply : Reply) (old new : Known K)
      → IsLegal base (entries_in new.front) → IsSaved see shelf base session reply old new
      → FindsNoRoom reply (seen_in session base shelf old) (seen_in session base shelf new)
      ⊎ IsMade see reply (seen_in session base shelf old) (seen_in session base shelf new)
  saved_in see session base shelf reply old new legal saved = elim saved.is [
    | inl found ↦ inl (no_room session base shelf reply old new legal found)
    | inr whole ↦ inr (made see session base shelf reply old new legal whole)
  ]

  pub of_save : (see : K → ShelfState) (session : ℕ) (base : Document) (shelf : K) (reply : Reply) (old new : Known K)
      → IsSaved see shelf base session reply old new → IsOfSave reply
  of_save see session base shelf reply old new saved = elim saved.is [
    | inl found ↦ subst IsOfSave (sym found.reply_is) tt
    | inr whole ↦ subst IsOfSave (sym whole.reply_is) (ends_save whole.how _)
  ]

module _ {K : Type 0} {C : Ghosts (Kept K) (Moment K)} where
  pub save_told : (see : K → ShelfState) (session : ℕ) (called kept : Studio K) (reply : Reply) (told : Option Reply) (old new : Seat K C)
      (was : Seen K) → called ≡ kept → seen_by session kept old ≡ was → told ≡ Some reply → SeatGoesOn called old new
      → IsSaved see (opening_shelf called) (base_of called) session reply (known_by old) (known_by new)
      → IsSaveTold see told was (seen_by session kept new)
  save_told see session called kept reply told old new was same view is goes_on saved =
      subst (λ (o : Option Reply). IsSaveTold see o was (seen_by session kept new)) (sym is)
      (subst (λ (seen : Seen K). IsSaveTold see (Some reply) seen (seen_by session kept new)) view
      (subst (λ (s : Studio K). IsSaveTold see (Some reply) (seen_by session s old) (seen_by session s new)) same (record {
        saved = saved_in see session (base_of called) (opening_shelf called) reply (known_by old) (known_by new)
            goes_on.seat.front.legal saved;
        heard = λ none. absurd (true≢false (ap is_some none));
      })))

  pub save_failed : (see : K → ShelfState) (session : ℕ) (called kept : Studio K) (old new : Seat K C) (was : Seen K) → called ≡ kept
      → seen_by session kept old ≡ was → SeatGoesOn called old new → HasHeard (known_by old) (known_by new)
      → IsSaveTold see None was (seen_by session kept new)
  save_failed see session called kept old new was same view goes_on failed = record {
    saved = tt;
    heard = λ _. heard {E = Unit {0}} (Unit {0}) session called kept (Err tt) old new was same view goes_on failed;
  }
