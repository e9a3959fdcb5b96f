-- Histories that grow by an entry. Versions.antt counts the versions, and Seen.antt says what a session has seen then.
use Rattle.std.proofs.Common.{◌≡◌, ℕ, ◌+◌, ◌<◌, ◌≤◌, Bool, true, false, cond, List, [], ◌∷◌, ◌++◌, length, get_or}
use Rattle.std.proofs.Common.{refl, sym, ◌∙◌, ap, subst, arith, lit<, append_assoc, length-append}
use Rattle.std.specs.Prelude.{◌==◌, ◌&&◌, not, Option, Result, Ok, Err, slice_get, option_to_list}
use Rattle.std.proofs.lemmas.List.{append-nil, get_or_append_left}
use Rattle.std.proofs.lemmas.List.Sums.{sum_by_push, sum_by-cons}
use Rattle.std.proofs.lemmas.List.Elements.{filter-append}
use Rattle.std.proofs.lemmas.Option.{unwrap_or-slice_get}
use Rattle.spec_document.specs.Document.{Document}
use Rattle.spec_document.proofs.Elements.{all-append}
use Rattle.spec_edit.specs.Edit.{Edit}
use Rattle.spec_edit.specs.Apply.{At, Refused, apply_group}
use Rattle.spec_history.specs.Machine.{Call, edit, undo, redo, tile, peek, top, changed, Done, State, latest}
use Rattle.spec_history.specs.Machine.{document_at, initial, names, stays, again, moved, not_top, made, undo_answer}
use Rattle.spec_history.specs.Machine.{redo_answer, answer}
use Rattle.spec_history.specs.History.{Kind, asked, starts, ends, Entry, is_end_kind, next_index, after_kind}
use Rattle.spec_history.specs.History.{after_entry, replay_from, replay, IsStep, RunFrom, is_changed, latest_of}
use Rattle.spec_history.specs.History.{document_of, mine}
use Rattle.spec_history.specs.Limited.{AsksCall, AreCalls}
use Rattle.spec_history.specs.Kept.{PeekMeetsKept, PeeksMeetKept, IsLegal}

-- ---- the state after more entries

pub replay_from-append : (base : Document) (s : State) (es more : List Entry)
    → replay_from base s (es ++ more) ≡ replay_from base (replay_from base s es) more
replay_from-append base s [] more = refl
replay_from-append base s (e ∷ es) more = replay_from-append base (after_entry base s e) es more

pub replay-append : (base : Document) (es more : List Entry) → replay base (es ++ more) ≡ replay_from base (replay base es) more
replay-append base es more = replay_from-append base (initial base) es more

pub replay-snoc : (base : Document) (es : List Entry) (e : Entry) → replay base (es ++ e ∷ []) ≡ after_entry base (replay base es) e
replay-snoc base es e = replay-append base es (e ∷ [])

-- ---- one more step

pub RunFrom-snoc : (base : Document) (s : State) (earlier es : List Entry) (e : Entry)
    → RunFrom base s earlier es → IsStep base (replay_from base s es) (earlier ++ es) e → RunFrom base s earlier (es ++ e ∷ [])
RunFrom-snoc base s earlier [] e run step =
    let P : List Entry → Type 0 = λ before. IsStep base s before e in (subst P (append-nil earlier) step, tt)
RunFrom-snoc base s earlier (x ∷ es) e run step =
    let P : List Entry → Type 0 = λ before. IsStep base (replay_from base (after_entry base s x) es) before e in (
      run.0,
      RunFrom-snoc base (after_entry base s x) (earlier
          ++ x ∷ []) es e run.1 (subst P (sym (append_assoc earlier (x ∷ []) es)) step),
    )

pub PeeksMeetKept-snoc : (base : Document) (earlier es : List Entry) (e : Entry)
    → PeeksMeetKept base earlier es → PeekMeetsKept base (earlier ++ es) e.kind e.reply → PeeksMeetKept base earlier (es ++ e ∷ [])
PeeksMeetKept-snoc base earlier [] e peeks last =
    let P : List Entry → Type 0 = λ before. PeekMeetsKept base before e.kind e.reply in (subst P (append-nil earlier) last, tt)
PeeksMeetKept-snoc base earlier (x ∷ es) e peeks last =
    let P : List Entry → Type 0 = λ before. PeekMeetsKept base before e.kind e.reply in
    (peeks.0, PeeksMeetKept-snoc base (earlier ++ x ∷ []) es e peeks.1 (subst P (sym (append_assoc earlier (x ∷ []) es)) last))

pub AreCalls-snoc : (es : List Entry) (e : Entry) → AreCalls es → AsksCall e.kind → AreCalls (es ++ e ∷ [])
AreCalls-snoc es e are is = all-append (λ x. AsksCall x.kind) es (e ∷ []) are (is, tt)

pub AsksCall-last : (es : List Entry) (e : Entry) → AreCalls (es ++ e ∷ []) → AsksCall e.kind
AsksCall-last [] e are = are.0
AsksCall-last (x ∷ es) e are = AsksCall-last es e are.1

-- a legal history goes on by a step; where it is a peek, it has to show what is kept
pub IsLegal-snoc : (base : Document) (es : List Entry) (e : Entry) → IsLegal base es → AsksCall e.kind
    → IsStep base (replay base es) es e → PeekMeetsKept base es e.kind e.reply → IsLegal base (es ++ e ∷ [])
IsLegal-snoc base es e legal asks step last = record {
  calls = AreCalls-snoc es e legal.calls asks;
  run = RunFrom-snoc base (initial base) [] es e legal.run step;
  kept = PeeksMeetKept-snoc base [] es e legal.kept last;
}

pub IsLegal-empty : (base : Document) → IsLegal base []
IsLegal-empty base = record { calls = tt; run = tt; kept = tt }

-- ---- counts

pub latest_of-snoc : (es : List Entry) (e : Entry) → latest_of (es ++ e ∷ []) ≡ latest_of es + cond (is_changed e.reply) 1 0
latest_of-snoc es e = sum_by_push (λ x. cond (is_changed x.reply) 1 0) es e

pub latest_of-cons : (e : Entry) (es : List Entry) → latest_of (e ∷ es) ≡ cond (is_changed e.reply) 1 0 + latest_of es
latest_of-cons e es = sum_by-cons (λ x. cond (is_changed x.reply) 1 0) e es

pub next_index-snoc : (es : List Entry) (e : Entry) (session : ℕ)
    → next_index (es ++ e ∷ []) session ≡ next_index es session + cond (e.session == session && not (is_end_kind e.kind)) 1 0
next_index-snoc es e session = sum_by_push (λ x. cond (x.session == session && not (is_end_kind x.kind)) 1 0) es e

pub mine-snoc : (es : List Entry) (e : Entry) (session : ℕ) → mine (es ++ e ∷ []) session ≡ mine es session ++ mine (e ∷ []) session
mine-snoc es e session = filter-append (λ x. x.session == session) es (e ∷ [])

-- ---- what holds of each branch

pub cond_both : {A : Type 0} (P : A → Type 0) (b : Bool) (x y : A) → P x → P y → P (cond b x y)
cond_both P true x y p q = p
cond_both P false x y p q = q

-- ---- no call lets a save out or in

out-made : (s : State) (old : At) (edits : List Edit) (tables : List (List ℕ)) (r : Result At Refused)
    → (made s old edits tables r).state.out ≡ s.out
out-made s old edits tables (Ok new) = refl
out-made s old edits tables (Err r) = refl

out-undo : (s : State) (named : Option ℕ) (ds : List Done) → (undo_answer s named ds).state.out ≡ s.out
out-undo s named [] = refl
out-undo s named (d ∷ ds) =
    cond_both (λ a. a.state.out ≡ s.out) (names named d.group)
    (record {
      reply = changed (latest s + 1) d.group s.next_id;
      state =
          record (again s d.before d.after) { undo = ds; redo = d ∷ s.redo };
    })
    (stays s (not_top d.group)) refl refl

out-redo : (s : State) (ds : List Done) → (redo_answer s ds).state.out ≡ s.out
out-redo s [] = refl
out-redo s (d ∷ ds) = refl

pub out-answer : (base : Document) (s : State) (call : Call) (tables : List (List ℕ))
    → (answer base s call tables).state.out ≡ s.out
out-answer base s (edit guard edits) tables =
    let old : At = record { document = document_at base s (latest s); next = s.next_id } in
    cond_both (λ a. a.state.out ≡ s.out) (names guard (latest s)) (made s old edits tables (apply_group old edits tables))
    (stays s (moved (latest s)))
    (out-made s old edits tables (apply_group old edits tables)) refl
out-answer base s (undo named) tables = out-undo s named s.undo
out-answer base s redo tables = out-redo s s.redo
out-answer base s (tile stack at) tables = refl
out-answer base s (peek stack at) tables = refl
out-answer base s top tables = refl

-- ---- documents stay where they are, and more come behind them

pub Grows : (old new : List Document) → Type 0
Grows old new = (more : List Document) × (new ≡ old ++ more)

pub grows_by : (old new : List Document) → (more : List Document) → new ≡ old ++ more → Grows old new
unfolding Grows
grows_by old new more e = (more, e)

grows-same : (old : List Document) → Grows old old
grows-same old = grows_by old old [] (sym (append-nil old))

grows-then : (a b c : List Document) → Grows a b → Grows b c → Grows a c
unfolding Grows
grows-then a b c (m, p) (n, q) = (m ++ n, q ∙ (ap (λ x. x ++ n) p ∙ append_assoc a m n))

grows-made : (s : State) (old : At) (edits : List Edit) (tables : List (List ℕ)) (r : Result At Refused)
    → Grows s.documents (made s old edits tables r).state.documents
grows-made s old edits tables (Ok new) = grows_by s.documents (s.documents ++ new.document ∷ []) (new.document ∷ []) refl
grows-made s old edits tables (Err r) = grows-same s.documents

grows-again : (s : State) (version cause : ℕ) → Grows s.documents (again s version cause).documents
grows-again s version cause =
    grows_by s.documents (again s version cause).documents (option_to_list (slice_get s.documents version)) refl

grows-undo : (s : State) (named : Option ℕ) (ds : List Done) → Grows s.documents (undo_answer s named ds).state.documents
grows-undo s named [] = grows-same s.documents
grows-undo s named (d ∷ ds) =
    cond_both (λ a. Grows s.documents a.state.documents) (names named d.group)
    (record {
      reply = changed (latest s + 1) d.group s.next_id;
      state =
          record (again s d.before d.after) { undo = ds; redo = d ∷ s.redo };
    })
    (stays s (not_top d.group)) (grows-again s d.before d.after) (grows-same s.documents)

grows-redo : (s : State) (ds : List Done) → Grows s.documents (redo_answer s ds).state.documents
grows-redo s [] = grows-same s.documents
grows-redo s (d ∷ ds) = grows-again s d.after d.after

pub grows-answer : (base : Document) (s : State) (call : Call) (tables : List (List ℕ))
    → Grows s.documents (answer base s call tables).state.documents
grows-answer base s (edit guard edits) tables =
    let old : At = record { document = document_at base s (latest s); next = s.next_id } in
    cond_both (λ a. Grows s.documents a.state.documents) (names guard (latest s))
    (made s old edits tables (apply_group old edits tables)) (stays s (moved (latest s)))
    (grows-made s old edits tables (apply_group old edits tables)) (grows-same s.documents)
grows-answer base s (undo named) tables = grows-undo s named s.undo
grows-answer base s redo tables = grows-redo s s.redo
grows-answer base s (tile stack at) tables = grows-same s.documents
grows-answer base s (peek stack at) tables = grows-same s.documents
grows-answer base s top tables = grows-same s.documents

grows-kind : (base : Document) (s : State) (e : Entry) (kind : Kind) → Grows s.documents (after_kind base s e kind).documents
grows-kind base s e (asked call tables) = grows-answer base s call tables
grows-kind base s e starts = grows-same s.documents
grows-kind base s e ends = grows-same s.documents

pub grows-replay_from : (base : Document) (s : State) (es : List Entry) → Grows s.documents (replay_from base s es).documents
grows-replay_from base s [] = grows-same s.documents
grows-replay_from base s (e ∷ es) =
    grows-then s.documents (after_entry base s e).documents (replay_from base s (e ∷ es)).documents
    (grows-kind base s e e.kind) (grows-replay_from base (after_entry base s e) es)

-- a version that is there has the same document afterwards
pub document_at-grows : (base : Document) (s t : State) (version : ℕ)
    → Grows s.documents t.documents → version < length s.documents → document_at base t version ≡ document_at base s version
unfolding Grows
document_at-grows base s t version (more, e) within =
    unwrap_or-slice_get t.documents version base
    ∙ (ap (λ d. get_or d version base) e
    ∙ (get_or_append_left s.documents more base version within
    ∙ sym (unwrap_or-slice_get s.documents version base)))

positive-grows : (old new : List Document) → Grows old new → 0 < length old → 0 < length new
unfolding Grows
positive-grows old new (more, e) some = let l = ap length e in omega (arith, simp length-append at l)

-- a history has the version 0 at least
pub some_documents : (base : Document) (es : List Entry) → 0 < length (replay base es).documents
some_documents base es = positive-grows (base ∷ []) (replay base es).documents (grows-replay_from base (initial base) es) (lit< tt)

-- more entries leave the document of a version as it was
pub document_of-append : (base : Document) (es more : List Entry) (version : ℕ)
    → version ≤ latest (replay base es) → document_of base (es ++ more) version ≡ document_of base es version
document_of-append base es more version within =
    let some = some_documents base es in
    let P : State → Type 0 = λ s. document_at base s version ≡ document_of base es version in
    subst P (sym (replay-append base es more))
    (document_at-grows base (replay base es) (replay_from base (replay base es) more) version
    (grows-replay_from base (replay base es) more) (omega arith))
