-- The groups behind the versions stay, and more come behind them.
use Rattle.std.proofs.Common.{◌≡◌, ℕ, zero, suc, ◌+◌, ◌-◌, ◌<◌, List, [], ◌∷◌, ◌++◌, length, refl, sym, ◌∙◌, ap, arith}
use Rattle.std.specs.Prelude.{Option, Some, Result, Ok, Err, slice_get, option_to_list}
use Rattle.std.proofs.lemmas.List.{append-nil}
use Rattle.spec_document.specs.Document.{Document}
use Rattle.spec_edit.specs.Edit.{Edit}
use Rattle.spec_edit.specs.Apply.{At, Refused, apply_group}
use Rattle.spec_history.specs.Machine.{Call, edit, undo, redo, tile, peek, top, changed, Done, Cause, State, latest}
use Rattle.spec_history.specs.Machine.{document_at, names, stays, again, moved, not_top, made, undo_answer}
use Rattle.spec_history.specs.Machine.{redo_answer, answer}
use Rattle.spec_history.specs.History.{Kind, asked, starts, ends, Entry, after_kind, after_entry}
use Rattle.spec_history.proofs.Growing.{cond_both}

-- the causes begin with the earlier ones
abbrev pub More : (old new : List Cause) → Type 0
More old new = (more : List Cause) × (new ≡ old ++ more)

same : (old : List Cause) → More old old
same old = ([], sym (append-nil old))

more-made : (s : State) (old : At) (edits : List Edit) (tables : List (List ℕ)) (r : Result At Refused)
    → More s.causes (made s old edits tables r).state.causes
more-made s old edits tables (Ok new) = (record { old = old; edits = edits; tables = tables } ∷ [], refl)
more-made s old edits tables (Err r) = same s.causes

more-undo : (s : State) (named : Option ℕ) (ds : List Done) → More s.causes (undo_answer s named ds).state.causes
more-undo s named [] = same s.causes
more-undo s named (d ∷ ds) =
    cond_both (λ a. More s.causes a.state.causes) (names named d.group)
    (record {
      reply = changed (latest s + 1) d.group s.next_id;
      state =
          record (again s d.before d.after) { undo = ds; redo = d ∷ s.redo };
    })
    (stays s (not_top d.group)) (option_to_list (slice_get s.causes (d.after - 1)), refl) (same s.causes)

more-redo : (s : State) (ds : List Done) → More s.causes (redo_answer s ds).state.causes
more-redo s [] = same s.causes
more-redo s (d ∷ ds) = (option_to_list (slice_get s.causes (d.after - 1)), refl)

more-answer : (base : Document) (s : State) (call : Call) (tables : List (List ℕ))
    → More s.causes (answer base s call tables).state.causes
more-answer base s (edit guard edits) tables =
    let old : At = record { document = document_at base s (latest s); next = s.next_id } in
    cond_both (λ a. More s.causes a.state.causes) (names guard (latest s)) (made s old edits tables (apply_group old edits tables))
    (stays s (moved (latest s)))
    (more-made s old edits tables (apply_group old edits tables)) (same s.causes)
more-answer base s (undo named) tables = more-undo s named s.undo
more-answer base s redo tables = more-redo s s.redo
more-answer base s (tile stack at) tables = same s.causes
more-answer base s (peek stack at) tables = same s.causes
more-answer base s top tables = same s.causes

more-kind : (base : Document) (s : State) (e : Entry) (kind : Kind) → More s.causes (after_kind base s e kind).causes
more-kind base s e (asked call tables) = more-answer base s call tables
more-kind base s e starts = same s.causes
more-kind base s e ends = same s.causes

pub slice_get-front : {A : Type 0} (xs ys : List A) (i : ℕ) → i < length xs → slice_get (xs ++ ys) i ≡ slice_get xs i
slice_get-front [] ys i within = absurd (omega (arith, within))
slice_get-front (x ∷ xs) ys zero within = refl
slice_get-front (x ∷ xs) ys (suc i) within = slice_get-front xs ys i (omega (arith, within))

pub slice_get-last : {A : Type 0} (xs : List A) (x : A) → slice_get (xs ++ x ∷ []) (length xs) ≡ Some x
slice_get-last [] x = refl
slice_get-last (y ∷ xs) x = slice_get-last xs x

-- an entry leaves the group behind each version as it was
pub causes-stay : (base : Document) (s : State) (e : Entry) (i : ℕ) → i < length s.causes
    → slice_get (after_entry base s e).causes i ≡ slice_get s.causes i
causes-stay base s e i within =
    let more = more-kind base s e e.kind in
    ap (λ cs. slice_get cs i) more.1 ∙ slice_get-front s.causes more.0 i within
