-- What a session has made of the first of its lines, where it may have stopped in one.
use Rattle.std.proofs.Common.{◌≡◌, ◌⊎◌, inl, inr, ℕ, Bool, true, false, List, [], ◌∷◌, ◌++◌, length, None, refl, sym, ap, ◌∙◌, subst}
use Rattle.std.proofs.Common.{append_assoc, append-nil}
use Rattle.std.proofs.lemmas.List.Elements.{filter_map-append}
use Rattle.std.specs.Prelude.{MatchBool, Option, Result, Ok, Err, IfOk, OnErr}
use mathlib.Core.List.{IsPrefix}
use Rattle.spec_document.specs.Document.{Document}
use Rattle.spec_filters.specs.declared.FilterState.{FilterState}
use Rattle.spec_history.specs.Machine.{Call, Reply}
use Rattle.spec_history.specs.History.{Entry, asked}
use Rattle.spec_run.specs.Fronts.{AreBegun}
use Rattle.spec_script.specs.Script.{Line, call, save, forget}
use Rattle.spec_seats.specs.Made.{HasMade, IsOf}
use Rattle.spec_seats.specs.Picked.{picked}
use Rattle.spec_seats.proofs.More.{calls_of-append, expected_same, picked_grown, picked_one, picked_two}
use Rattle.spec_tables.specs.Agrees.{Agrees}
use Rattle.spec_tables.specs.Tables.{HaveTables, expected_tables, filters_after, filters_along}
use Rattle.spec_text.specs.Text.{calls_along, calls_of, made_by}
use Rattle.xl_ports.specs.State.{ShelfState}
use Rattle.xl_studio.specs.declared.moment.Moment.{Moment}
use Rattle.xl_studio.specs.declared.moment.Moment.TheVariants.{Made}
use Rattle.xl_studio.specs.Answered.{IsReplied}
use Rattle.xl_studio.specs.Calling.{called_entry, Known, HasHeard}
use Rattle.xl_studio.specs.Moments.{entries_in}
use Rattle.xl_studio.specs.Saving.{IsSaved, IsWhole}
use Rattle.xl_studio.proofs.Grown.{entries-append, entries-prefix}
use Rattle.xl_sessions.specs.Lines.{IsLineBegun, own_of}
use Rattle.xl_sessions.proofs.SaveMore.{end_more, start_more, whole_more}
use Rattle.xl_sessions.proofs.SoFar.{IsSoFar}

-- ---- of a line

none_begun : (filters : List FilterState) (line : Line) (old new : List Entry) → new ≡ old → IsLineBegun filters line old new
none_begun filters line old new same =
    record { more = []; grown = same ∙ sym (append-nil old); calls = inl refl; tables = tt }

module _ {K : Type 0} where
  heard_begun : (session : ℕ) (filters : List FilterState) (line : Line) (old new : Known K)
      → IsOf session old.made (entries_in old.front) → IsPrefix old.front new.front → new.made ≡ old.made
      → IsLineBegun filters line (own_of old) (own_of new)
  heard_begun session filters line old new of begins made =
      none_begun filters line (own_of old) (own_of new)
      (ap (λ places. picked places (entries_in new.front)) made
      ∙ picked_grown old.made (entries_in old.front) (entries_in new.front) (entries-prefix old.front new.front begins) of.within)

  call_where : (full : Bool) (P : Type 0) (session : ℕ) (c : Call) (filters : List FilterState) (reply : Reply) (old new : Known K)
      (entered : List (Moment K)) → IsOf session old.made (entries_in old.front) → IsPrefix old.front entered
      → MatchBool full (P × (new.front ≡ entered) × (new.made ≡ old.made))
      ((new.front ≡ entered ++ Made (called_entry (entries_in entered) session c (expected_tables filters (asked c []) reply) reply) None ∷ [])
      × (new.made ≡ old.made ++ length (entries_in entered) ∷ []))
      → IsLineBegun filters (call c) (own_of old) (own_of new)
  call_where true P session c filters reply old new entered of begins is =
      heard_begun session filters (call c) old new of (subst (IsPrefix old.front) (sym is.1) begins) is.2
  call_where false P session c filters reply old new entered of begins is =
      let tables : List (List ℕ) = expected_tables filters (asked c []) reply in
      let e : Entry = called_entry (entries_in entered) session c tables reply in
      record {
        more = e ∷ [];
        grown =
            (λ i. picked (is.1 i) ((ap entries_in is.0 ∙ entries-append entered (Made e None ∷ [])) i))
            ∙ picked_one old.made (entries_in old.front) (entries_in entered) e (entries-prefix old.front entered begins) of.within;
        calls = inr refl;
        tables = (expected_same filters c [] tables reply, tt);
      }

  pub call_begun : {E : Type 0} (R : Type 0) (reply_of : R → Reply) (r : Result R E) (base : Document) (session : ℕ) (c : Call)
      (before after : List (Option FilterState)) (bytes : List ℕ) (old new : Known K)
      → IsOf session old.made (entries_in old.front)
      → IfOk r (λ reply. IsReplied base session c before after bytes old new (reply_of reply)) → OnErr r (HasHeard old new)
      → (filters : List FilterState) → Agrees before filters → IsLineBegun filters (call c) (own_of old) (own_of new)
  call_begun R reply_of (Ok reply) base session c before after bytes old new of replied heard filters agrees =
      let called = replied.called filters agrees in
      call_where _ _ session c filters (reply_of reply) old new called.entered of called.begins called.made
  call_begun R reply_of (Err e) base session c before after bytes old new of replied heard filters agrees =
      heard_begun session filters (call c) old new of heard.begins heard.made

  whole_begun : (see : K → ShelfState) (opening : K) (base : Document) (session : ℕ) (reply : Reply) (filters : List FilterState)
      (old new : Known K) → IsOf session old.made (entries_in old.front) → IsWhole see opening base session reply old new
      → IsLineBegun filters save (own_of old) (own_of new)
  whole_begun see opening base session reply filters old new of whole =
      let more = whole_more see opening base session reply old new whole in
      let s = start_more session more.index more.version in
      let t = end_more session more.index reply in
      record {
        more = s ∷ t ∷ [];
        grown =
            (λ i. picked (more.places_are i) (more.entries_are i))
            ∙ picked_two old.made (entries_in old.front) more.entered s more.between t more.begins of.within
            ∙ append_assoc (own_of old) (s ∷ []) (t ∷ []);
        calls = inr refl;
        tables = (refl, (refl, tt));
      }

  pub save_begun : {E : Type 0} (R : Type 0) (reply_of : R → Reply) (r : Result R E) (see : K → ShelfState) (opening : K)
      (base : Document) (session : ℕ) (old new : Known K) → IsOf session old.made (entries_in old.front)
      → IfOk r (λ reply. IsSaved see opening base session (reply_of reply) old new) → OnErr r (HasHeard old new)
      → (filters : List FilterState) → IsLineBegun filters save (own_of old) (own_of new)
  save_begun R reply_of (Ok reply) see opening base session old new of saved heard filters = elim saved.is [
    | inl full ↦ heard_begun session filters save old new of full.begins full.made
    | inr whole ↦ whole_begun see opening base session (reply_of reply) filters old new of whole
  ]
  save_begun R reply_of (Err e) see opening base session old new of saved heard filters =
      heard_begun session filters save old new of heard.begins heard.made

-- a line that is dropped makes nothing
pub forget_begun : (filters : List FilterState) (slot : ℕ) (own : List Entry) → IsLineBegun filters (forget slot) own own
forget_begun filters slot own = none_begun filters (forget slot) own own refl

-- ---- of all lines

tables_append : (filters : List FilterState) (es more : List Entry) → HaveTables filters es
    → HaveTables (filters_along filters es) more → HaveTables filters (es ++ more)
tables_append filters [] more have rest = rest
tables_append filters (e ∷ es) more have rest =
    (have.0, tables_append (filters_after filters e.kind e.reply) es more have.1 rest)

-- where all calls of the lines were made
pub all_begun : (session : ℕ) (filters : List FilterState) (lines : List Line) (places : List ℕ) (es : List Entry)
    → HasMade session filters lines places es → AreBegun filters lines (picked places es)
all_begun session filters lines places es made =
    record { calls = ([], append-nil (calls_along (picked places es)) ∙ made.calls); tables = made.tables }

-- the calls of the lines that are left
left_calls : (own : List Entry) (taken left rest : List Line) (line : Line) (more : List Entry) → left ≡ line ∷ rest
    → calls_along own ≡ calls_of taken → (more ≡ []) ⊎ (calls_along more ≡ calls_of (line ∷ []))
    → IsPrefix (calls_along (own ++ more)) (calls_of (taken ++ left))
left_calls own taken left rest line more turn made (inl none) = (
  calls_of left,
  ap (λ (m : List Entry). calls_along (own ++ m) ++ calls_of left) none
      ∙ ap (λ (es : List Entry). calls_along es ++ calls_of left) (append-nil own)
      ∙ ap (λ (ls : List Line). ls ++ calls_of left) made ∙ sym (calls_of-append taken left),
)
left_calls own taken left rest line more turn made (inr one) = (
  calls_of rest,
  ap (λ (ls : List Line). ls ++ calls_of rest) (filter_map-append (λ (e : Entry). made_by e.kind) own more)
      ∙ append_assoc (calls_along own) (calls_along more) (calls_of rest)
      ∙ ap (λ (ls : List Line). ls ++ (calls_along more ++ calls_of rest)) made
      ∙ ap (λ (ls : List Line). calls_of taken ++ (ls ++ calls_of rest)) one
      ∙ ap (λ (ls : List Line). calls_of taken ++ ls) (sym (calls_of-append (line ∷ []) rest))
      ∙ ap (λ (ls : List Line). calls_of taken ++ calls_of ls) (sym turn)
      ∙ sym (calls_of-append taken left),
)

-- where the session stopped in a line
pub cut_begun : {K : Type 0} {base : Document} {session : ℕ} {start now : List (Option FilterState)} {taken : List Line}
    {old : Known K} {texts : List (List ℕ)} (new : Known K) (all left rest : List Line) (line : Line)
    → IsSoFar base session start now taken old texts → all ≡ taken ++ left → left ≡ line ∷ rest
    → ((filters : List FilterState) → Agrees now filters → IsLineBegun filters line (own_of old) (own_of new))
    → (filters : List FilterState) → Agrees start filters → AreBegun filters all (own_of new)
cut_begun {taken = taken} {old = old} new all left rest line so_far whole turn begun filters agrees =
    let made = so_far.made filters agrees in
    let one = begun (filters_along filters (own_of old)) (so_far.agrees filters agrees) in
    subst (λ (ls : List Line). AreBegun filters ls (own_of new)) (sym whole)
    (subst (AreBegun filters (taken ++ left)) (sym one.grown)
    (record {
      calls = left_calls (own_of old) taken left rest line one.more turn made.calls one.calls;
      tables = tables_append filters (own_of old) one.more made.tables one.tables;
    }))
