-- What a call or a save of a session leaves of what the session has made.
use Rattle.std.proofs.Common.{◌≡◌, ℕ, ◌+◌, Bool, true, false, List, [], ◌∷◌, ◌++◌, length, Option, Some, None, refl}
use Rattle.std.proofs.Common.{sym, ap, ◌∙◌, subst, arith, length-append, inl, inr}
use Rattle.std.specs.Prelude.{MatchBool, Result, Ok, Err, IfOk, OnErr}
use mathlib.Core.List.{IsPrefix}
use Rattle.spec_document.specs.Document.{Document}
use Rattle.spec_filters.specs.declared.FilterState.{FilterState}
use Rattle.spec_history.specs.Machine.{Call, Reply}
use Rattle.spec_history.specs.History.{Entry}
use Rattle.xl_ports.specs.State.{ShelfState}
use Rattle.spec_seats.specs.Made.{IsOf}
use Rattle.spec_seats.proofs.More.{before_end, with_save, of_grows, of_call, of_save}
use Rattle.xl_studio.specs.Editing.{start_of}
use Rattle.xl_studio.specs.declared.moment.Moment.{Moment}
use Rattle.xl_studio.specs.declared.moment.Moment.TheVariants.{Made}
use Rattle.xl_studio.specs.Moments.{entries_in}
use Rattle.xl_studio.specs.Answered.{IsReplied}
use Rattle.xl_studio.specs.Calling.{called_entry, Known, IsCalled, HasHeard}
use Rattle.xl_studio.specs.Saving.{IsSaved, IsWhole, end_behind}
use Rattle.xl_studio.specs.Seats.{history_of}
use Rattle.xl_studio.proofs.Answered.{called_with}
use Rattle.xl_studio.proofs.Grown.{entries-append, entries-prefix}

of_moved : (session : ℕ) (made made' : List ℕ) (es es' : List Entry) → made ≡ made' → es ≡ es' → IsOf session made es
    → IsOf session made' es'
of_moved session made made' es es' p q of = subst (λ ms. IsOf session ms es') p (subst (IsOf session made) q of)

pub saved_places : (places : List ℕ) (entered between : List Entry) (s : Entry)
    → places ++ length entered ∷ [] ++ (length entered + 1 + length between) ∷ [] ≡ with_save places entered s between
saved_places places entered between s =
    let size : length entered + 1 + length between ≡ length (before_end entered s between) =
    omega (arith, length-append (entered ++ s ∷ []) between, length-append entered (s ∷ [])) in
    ap (λ n. (places ++ length entered ∷ []) ++ n ∷ []) size

module _ {K : Type 0} where
  of_longer : (session : ℕ) (old new : Known K) → IsPrefix old.front new.front → new.made ≡ old.made
      → IsOf session old.made (entries_in old.front) → IsOf session new.made (entries_in new.front)
  of_longer session old new begins made of =
      of_moved session old.made new.made (entries_in new.front) (entries_in new.front) (sym made) refl
      (of_grows session old.made (entries_in old.front) (entries_in new.front) (entries-prefix old.front new.front begins) of)

  of_where : (full : Bool) (P : Type 0) (session : ℕ) (c : Call) (tables : List (List ℕ)) (reply : Reply) (old new : Known K)
      (entered : List (Moment K)) → IsPrefix old.front entered
      → MatchBool full (P × (new.front ≡ entered) × (new.made ≡ old.made))
      ((new.front ≡ entered ++ Made (called_entry (entries_in entered) session c tables reply) None ∷ [])
      × (new.made ≡ old.made ++ length (entries_in entered) ∷ []))
      → IsOf session old.made (entries_in old.front) → IsOf session new.made (entries_in new.front)
  of_where true P session c tables reply old new entered begins is of =
      of_longer session old new (subst (IsPrefix old.front) (sym is.1) begins) is.2 of
  of_where false P session c tables reply old new entered begins is of =
      let e : Entry = called_entry (entries_in entered) session c tables reply in
      of_moved session (old.made ++ length (entries_in entered) ∷ []) new.made (entries_in entered ++ e ∷ []) (entries_in new.front)
      (sym is.1)
      (sym (ap entries_in is.0 ∙ entries-append entered (Made e None ∷ [])))
      (of_call session old.made (entries_in old.front) (entries_in entered) e c tables of
      (entries-prefix old.front entered begins) refl refl)

  pub of_called : (base : Document) (session : ℕ) (c : Call) (tables : List (List ℕ)) (reply : Reply) (old new : Known K)
      → IsCalled base session c tables reply old new
      → IsOf session old.made (entries_in old.front) → IsOf session new.made (entries_in new.front)
  of_called base session c tables reply old new called of =
      of_where _ _ session c tables reply old new called.entered called.begins called.made of

  pub of_after_call : {E : Type 0} (R : Type 0) (reply_of : R → Reply) (r : Result R E) (base : Document) (session : ℕ) (c : Call)
      (before after : List (Option FilterState)) (bytes : List ℕ) (old new : Known K)
      → IfOk r (λ reply. IsReplied base session c before after bytes old new (reply_of reply))
      → OnErr r (HasHeard old new) → IsOf session old.made (entries_in old.front) → IsOf session new.made (entries_in new.front)
  of_after_call R reply_of (Ok reply) base session c before after bytes old new replied heard of =
      let with = called_with replied in of_called base session c with.0 (reply_of reply) old new with.1 of
  of_after_call R reply_of (Err e) base session c before after bytes old new replied heard of =
      of_longer session old new heard.begins heard.made of

  -- ---- a save

  pub saved_entries : (entered between : List (Moment K)) (s t : Entry) (shelf : K)
      → entries_in (entered ++ Made s (Some shelf) ∷ [] ++ between ++ Made t None ∷ [])
      ≡ before_end (entries_in entered) s (entries_in between) ++ t ∷ []
  saved_entries entered between s t shelf =
      entries-append (entered ++ Made s (Some shelf) ∷ [] ++ between) (Made t None ∷ [])
      ∙ ap (λ es. es ++ t ∷ [])
      (entries-append (entered ++ Made s (Some shelf) ∷ []) between
      ∙ ap (λ es. es ++ entries_in between) (entries-append entered (Made s (Some shelf) ∷ [])))

  of_whole : (see : K → ShelfState) (opening : K) (base : Document) (session : ℕ) (reply : Reply) (old new : Known K)
      → IsWhole see opening base session reply old new
      → IsOf session old.made (entries_in old.front) → IsOf session new.made (entries_in new.front)
  of_whole see opening base session reply old new whole of =
      let es = entries_in whole.entered in
      let s : Entry = start_of (history_of base whole.entered) session in
      let t : Entry = end_behind es session reply in
      of_moved session (with_save old.made es s (entries_in whole.between)) new.made
      (before_end es s (entries_in whole.between) ++ t ∷ []) (entries_in new.front)
      (sym (whole.made ∙ saved_places old.made es (entries_in whole.between) s))
      (sym (ap entries_in whole.front ∙ saved_entries whole.entered whole.between s t whole.shelf))
      (of_save session old.made (entries_in old.front) es s (entries_in whole.between) t of
      (entries-prefix old.front whole.entered whole.begins) refl refl refl refl refl)

  pub of_saved : (see : K → ShelfState) (opening : K) (base : Document) (session : ℕ) (reply : Reply) (old new : Known K)
      → IsSaved see opening base session reply old new
      → IsOf session old.made (entries_in old.front) → IsOf session new.made (entries_in new.front)
  of_saved see opening base session reply old new saved of = elim saved.is [
    | inl full ↦ of_longer session old new full.begins full.made of
    | inr whole ↦ of_whole see opening base session reply old new whole of
  ]

  pub of_after_save : {E : Type 0} (R : Type 0) (reply_of : R → Reply) (r : Result R E) (see : K → ShelfState) (opening : K)
      (base : Document) (session : ℕ) (old new : Known K)
      → IfOk r (λ reply. IsSaved see opening base session (reply_of reply) old new)
      → OnErr r (HasHeard old new) → IsOf session old.made (entries_in old.front) → IsOf session new.made (entries_in new.front)
  of_after_save R reply_of (Ok reply) see opening base session old new saved heard of =
      of_saved see opening base session (reply_of reply) old new saved of
  of_after_save R reply_of (Err e) see opening base session old new saved heard of =
      of_longer session old new heard.begins heard.made of
