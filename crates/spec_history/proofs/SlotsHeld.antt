-- What may be kept of a tile, entry by entry.
use Rattle.std.proofs.Common.{◌≡◌, ℕ, ◌+◌, ◌-◌, ◌<◌, ◌≤◌, Bool, true, false, cond, List, [], ◌∷◌, ◌++◌, inl, inr}
use Rattle.std.proofs.Common.{⊎_elim, ◌⊎◌, length, refl, sym, ◌∙◌, ap, subst, arith, true≢false, eqb-true}
use Rattle.std.specs.Prelude.{not, ◌&&◌, ◌||◌, ◌==◌, Option, Some, None, is_some, IfSome, slice_get, unwrap_or}
use Rattle.spec_document.specs.declared.TileAt.{TileAt}
use Rattle.spec_document.specs.Document.{Document}
use Rattle.spec_document.specs.Limits.{IsDocument}
use Rattle.spec_damage.specs.Picture.{project}
use Rattle.spec_history.specs.Machine.{State, latest, document_at, has_stack}
use Rattle.spec_history.specs.History.{Entry, replay, document_of, IsStep, Run, is_changed}
use Rattle.spec_history.specs.Kept.{shown_version, or_earlier, damaged_at, kept}
use Rattle.spec_history.specs.KeptNext.{kept_next, kept_after}
use Rattle.spec_history.specs.Marks.{marks, marked_at}
use Rattle.spec_history.specs.Slots.{version_kept, IsShown, IsPictured, IsSlotOf, IsSlot}
use Rattle.spec_history.proofs.Moves.{AsBefore, MovesBy}
use Rattle.spec_history.proofs.GroupsBehind.{IsCaused, caused-replay}
use Rattle.spec_history.proofs.TilesStay.{one_keeps}
use Rattle.spec_history.proofs.KeptMore.{StaysBefore, kept-snoc}
use Rattle.spec_history.proofs.SinceMark.{last_of-le, moves_by-replay, counted-replay, marked-same, marked-one}

-- ---- numbers that may be there

pub some_of : (o : Option ℕ) (k n : ℕ) → IfSome o (λ m. m ≤ n) → o ≡ Some k → k ≤ n
some_of None k n h e = cc
some_of (Some m) k n h e = let is : m ≡ k = cc in omega (arith, h, is)

pub if_all : (o : Option ℕ) (n : ℕ) → ((k : ℕ) → o ≡ Some k → k ≤ n) → IfSome o (λ m. m ≤ n)
if_all None n h = tt
if_all (Some k) n h = h k refl

-- what has to be kept stays, is given up, or moves on from the last version to the next
record KeepsOn (now then_is : ℕ) (old new : Option ℕ) : Type 0 where
  none : old ≡ None → new ≡ None
  some : (k : ℕ) → new ≡ Some k → (old ≡ Some k) ⊎ ((old ≡ Some now) × (k ≡ then_is))

next_keeps : (now then_is : ℕ) (there damaged : Bool) (o : Option ℕ) → then_is ≡ now + 1
    → KeepsOn now then_is o (kept_next then_is there damaged o)
next_keeps now then_is there damaged None version = record { none = λ e. refl; some = λ k e. cc }
next_keeps now then_is there damaged (Some old) version =
    record { none = λ e. cc; some = λ k e. step there damaged (old + 1 == then_is) refl k e } where
      step : (there damaged at_last : Bool) → (old + 1 == then_is) ≡ at_last → (k : ℕ)
          → cond (not there) None (cond (at_last && not damaged) (Some then_is) (Some old)) ≡ Some k
          → (Some old ≡ Some k) ⊎ ((Some old ≡ Some now) × (k ≡ then_is))
      step false damaged at_last is k e = cc
      step true true true is k e = inl e
      step true true false is k e = inl e
      step true false false is k e = inl e
      step true false true is k e =
          let l : old + 1 ≡ then_is = eqb-true (old + 1) then_is is in
          let n : old ≡ now = omega (arith, l, version) in
          let m : k ≡ then_is = cc in
          inr (ap Some n, m)

-- where a version damages the tile, what has to be kept stays or is given up
pub damaged_keeps : (then_is : ℕ) (there : Bool) (o : Option ℕ) (k : ℕ) → kept_next then_is there true o ≡ Some k → o ≡ Some k
damaged_keeps then_is there None k e = cc
damaged_keeps then_is there (Some old) k e = step there (old + 1 == then_is) e where
  step : (there at_last : Bool) → cond (not there) None (cond (at_last && false) (Some then_is) (Some old)) ≡ Some k
      → Some old ≡ Some k
  step false at_last e = cc
  step true true e = e
  step true false e = e

-- ---- a version more, or none, that does not damage the tile

record Onward (base : Document) (s t : State) (old new : Option ℕ) (stack : ℕ) (at : TileAt) : Type 0 where
  later : latest s ≤ latest t
  documents : (v : ℕ) → v ≤ latest s → document_at base t v ≡ document_at base s v
  same : project (document_at base s (latest s)) stack at ≡ project (document_at base t (latest t)) stack at
  there : has_stack (document_at base t (latest t)) stack ≡ true
  marked : marked_at base t stack at ≡ marked_at base s stack at
  keeps : KeepsOn (latest s) (latest t) old new

-- a slot with a picture, clean or marked
shown-onward : (base : Document) (s t : State) (old new : Option ℕ) (stack : ℕ) (at : TileAt) (picture : List ℕ) (good_to : ℕ)
    (is : Bool) (mark : ℕ)
    → Onward base s t old new stack at → (is ≡ true → good_to < mark) → mark ≤ latest s
    → IsShown base s old stack at picture (version_kept (latest s) good_to is)
    → IsShown base t new stack at picture (version_kept (latest t) good_to is)
shown-onward base s t old new stack at picture good_to false mark on older le shown = record {
  within = omega arith;
  there = on.there;
  picture_is = shown.picture_is ∙ on.same;
  enough = if_all new (latest t) (λ k e.
      let later = on.later in
      ⊎_elim (λ was. let low = some_of old k (latest s) shown.enough was in omega (arith, low, later))
      (λ moved. let is = moved.1 in omega (arith, is))
      (on.keeps.some k e));
}
shown-onward base s t old new stack at picture good_to true mark on older le shown =
    let low = older refl in
    let later = on.later in
    let is = on.documents good_to shown.within in
    record {
      within = omega (arith, low, le, later);
      there = ap (λ d. has_stack d stack) is ∙ shown.there;
      picture_is = shown.picture_is ∙ ap (λ d. project d stack at) (sym is);
      enough = if_all new good_to (λ k e.
          ⊎_elim (λ was. some_of old k good_to shown.enough was)
          (λ moved. let past = some_of old (latest s) good_to shown.enough moved.0 in absurd (omega (arith, past, low, le)))
          (on.keeps.some k e));
    }

pictured-onward : (base : Document) (s t : State) (old new : Option ℕ) (stack : ℕ) (at : TileAt) (picture : Option (List ℕ))
    (good_to : ℕ) (is : Bool) (mark : ℕ)
    → Onward base s t old new stack at → (is ≡ true → is_some picture ≡ true → good_to < mark) → mark ≤ latest s
    → IsPictured base s old stack at picture (version_kept (latest s) good_to is)
    → IsPictured base t new stack at picture (version_kept (latest t) good_to is)
pictured-onward base s t old new stack at None good_to is mark on older le pictured = on.keeps.none pictured
pictured-onward base s t old new stack at (Some picture) good_to is mark on older le pictured =
    shown-onward base s t old new stack at picture good_to is mark on (λ e. older e refl) le pictured

pub mark-within : (base : Document) (s : State) (keeps : Option ℕ) (stack : ℕ) (at : TileAt) (picture : Option (List ℕ))
    (good_to : ℕ) (is : Bool) (mark : ℕ)
    → IsSlotOf base s keeps stack at picture good_to is mark → mark ≤ latest s
mark-within base s keeps stack at picture good_to is mark slot =
    let e = slot.mark_is in
    let le = last_of-le (marks base s stack at) (latest s) in
    omega (arith, e, le)

slot-onward : (base : Document) (s t : State) (old new : Option ℕ) (stack : ℕ) (at : TileAt) (picture : Option (List ℕ))
    (good_to : ℕ) (is : Bool) (mark : ℕ)
    → Onward base s t old new stack at → IsSlotOf base s old stack at picture good_to is mark
    → IsSlotOf base t new stack at picture good_to is mark
slot-onward base s t old new stack at picture good_to is mark on slot = record {
  there = on.there;
  mark_is = slot.mark_is ∙ sym on.marked;
  pictured = pictured-onward base s t old new stack at picture good_to is mark on slot.older
      (mark-within base s old stack at picture good_to is mark slot) slot.pictured;
  clean = slot.clean;
  older = slot.older;
}

keeps-same : (now then_is : ℕ) (old new : Option ℕ) → new ≡ old → KeepsOn now then_is old new
keeps-same now then_is old new e = record { none = λ n. e ∙ n; some = λ k is. inl (sym e ∙ is) }

onward-same : (base : Document) (s t : State) (old new : Option ℕ) (stack : ℕ) (at : TileAt) → AsBefore s t → new ≡ old
    → has_stack (document_at base s (latest s)) stack ≡ true
    → Onward base s t old new stack at
onward-same base s t old new stack at same keeps there =
    let count : latest t ≡ latest s = ap (λ ds. length ds - 1) same.documents in
    let docs : (v : ℕ) → document_at base t v ≡ document_at base s v =
    λ v. ap (λ ds. unwrap_or (slice_get ds v) base) same.documents in
    let now : document_at base t (latest t) ≡ document_at base s (latest s) = docs (latest t) ∙ ap (document_at base s) count in
    record {
      later = omega (arith, count);
      documents = λ v within. docs v;
      same = ap (λ d. project d stack at) (sym now);
      there = ap (λ d. has_stack d stack) now ∙ there;
      marked = marked-same base s t stack at same;
      keeps = keeps-same (latest s) (latest t) old new keeps;
    }

-- a stack that was there at the version before has not come at this one
not_marked : (base : Document) (s t : State) (stack : ℕ) (at : TileAt) → StaysBefore base s t
    → has_stack (document_at base s (latest s)) stack ≡ true → damaged_at base t stack at (latest t) ≡ false
    → marks base t stack at (latest t) ≡ false
not_marked base s t stack at stays there whole =
    let version = stays.version in
    let before : latest t - 1 ≡ latest s = omega (arith, version) in
    let was : has_stack (document_at base t (latest t - 1)) stack ≡ true = ap (λ v. has_stack (document_at base t v) stack) before
    ∙ (ap (λ d. has_stack d stack) (stays.documents (latest s) (omega arith)) ∙ there) in
    (λ i. (has_stack (document_at base t (latest t)) stack && not (was i)) || whole i)
    ∙ neither (has_stack (document_at base t (latest t)) stack) where
      neither : (b : Bool) → (b && false) || false ≡ false
      neither true = refl
      neither false = refl

onward-one : (base : Document) (s t : State) (old new : Option ℕ) (stack : ℕ) (at : TileAt) → IsCaused base t → StaysBefore base s t
    → has_stack (document_at base s (latest s)) stack ≡ true → has_stack (document_at base t (latest t)) stack ≡ true
    → damaged_at base t stack at (latest t) ≡ false
    → new ≡ kept_next (latest t) (has_stack (document_at base t (latest t)) stack) (damaged_at base t stack at (latest t)) old
    → Onward base s t old new stack at
onward-one base s t old new stack at caused stays was there whole keeps =
    let version = stays.version in
    let before = stays.documents (latest s) (omega arith) in
    let unmarked = not_marked base s t stack at stays was whole in
    let K : Option ℕ → Type 0 = λ o. KeepsOn (latest s) (latest t) old o in
    record {
      later = omega (arith, version);
      documents = stays.documents;
      same =
          ap (λ d. project d stack at) (sym before)
          ∙ (one_keeps base t stack at (latest s) caused (omega (arith, version)) (ap (λ d. has_stack d stack) before
          ∙ was) (ap (λ v. has_stack (document_at base t v) stack) (sym version) ∙ there)
          (ap (damaged_at base t stack at) (sym version) ∙ whole)
          ∙ ap (λ v. project (document_at base t v) stack at) (sym version));
      there = there;
      marked = marked-one base s t stack at stays ∙ ap (λ b. cond b (latest t) (marked_at base s stack at)) unmarked;
      keeps = subst K (sym keeps) (next_keeps (latest s) (latest t) (has_stack (document_at base t (latest t)) stack)
          (damaged_at base t stack at (latest t)) old version);
    }

-- what has to be kept after an entry that is no tile call of this tile
pub keeps-by : (base : Document) (es : List Entry) (e : Entry) (stack : ℕ) (at : TileAt) (change : Bool) → Run base es
    → IsStep base (replay base es) es e → shown_version e.kind e.reply stack at ≡ None
    → is_changed e.reply ≡ change
    → kept base (es ++ e ∷ []) stack at
    ≡ cond change (kept_next (latest (replay base (es ++ e ∷ [])))
    (has_stack (document_of base (es ++ e ∷ []) (latest (replay base (es ++ e ∷ [])))) stack)
    (damaged_at base (replay base (es ++ e ∷ [])) stack at (latest (replay base (es ++ e ∷ [])))) (kept base es stack at))
    (kept base es stack at)
keeps-by base es e stack at change run step other is =
    let t = replay base (es ++ e ∷ []) in
    kept-snoc base es e stack at run step
    ∙ (ap (λ o. or_earlier o (kept_after base t stack at e.reply (kept base es stack at))) other
    ∙ ap (λ b. cond b (kept_next (latest t) (has_stack (document_at base t (latest t)) stack)
    (damaged_at base t stack at (latest t)) (kept base es stack at)) (kept base es stack at)) is)

-- ---- the laws

pub slot-first : (base : Document) (stack : ℕ) (at : TileAt) (good_to : ℕ) → has_stack base stack ≡ true
    → IsSlot base [] stack at None good_to true 0
slot-first base stack at good_to there = record {
  there = there;
  mark_is = refl;
  pictured = refl;
  clean = λ e. absurd (true≢false e);
  older = λ e some. absurd (true≢false (sym some));
}

pub slot-stays : (base : Document) (es : List Entry) (e : Entry) (stack : ℕ) (at : TileAt) (picture : Option (List ℕ)) (good_to : ℕ)
    (marked : Bool) (mark : ℕ)
    → IsDocument base → Run base es → IsStep base (replay base es) es e → IsSlot base es stack at picture good_to marked mark
    → shown_version e.kind e.reply stack at ≡ None
    → has_stack (document_of base (es ++ e ∷ []) (latest (replay base (es ++ e ∷ [])))) stack ≡ true
    → is_changed e.reply && damaged_at base (replay base (es ++ e ∷ [])) stack at (latest (replay base (es ++ e ∷ []))) ≡ false
    → IsSlot base (es ++ e ∷ []) stack at picture good_to marked mark
slot-stays base es e stack at picture good_to marked mark is run step slot other there whole =
    go (is_changed e.reply) refl (moves_by-replay base es e step) whole where
      go : (change : Bool) → is_changed e.reply ≡ change
          → MovesBy (replay base es) (replay base (es ++ e ∷ [])) (is_changed e.reply)
          → change && damaged_at base (replay base (es ++ e ∷ [])) stack at (latest (replay base (es ++ e ∷ []))) ≡ false
          → IsSlotOf base (replay base (es ++ e ∷ [])) (kept base (es ++ e ∷ []) stack at) stack at picture good_to marked mark
      go false change (inl (no_change, same)) apart =
          let s = replay base es in
          let t = replay base (es ++ e ∷ []) in
          slot-onward base s t (kept base es stack at) (kept base (es ++ e ∷ []) stack at) stack at picture good_to marked mark
          (onward-same base s t (kept base es stack at) (kept base (es ++ e ∷ []) stack at) stack at same
          (keeps-by base es e stack at false run step other change) slot.there) slot
      go true change (inr (changed, one)) apart =
          let s = replay base es in
          let t = replay base (es ++ e ∷ []) in
          slot-onward base s t (kept base es stack at) (kept base (es ++ e ∷ []) stack at) stack at picture good_to marked mark
          (onward-one base s t (kept base es stack at) (kept base (es ++ e ∷ []) stack at) stack at
          (caused-replay base (es ++ e ∷ []) is) (counted-replay base es t one) slot.there there apart
          (keeps-by base es e stack at true run step other change)) slot
      go true change (inl (no_change, same)) apart = absurd (true≢false (sym change ∙ no_change))
      go false change (inr (changed, one)) apart = absurd (true≢false (sym changed ∙ change))
