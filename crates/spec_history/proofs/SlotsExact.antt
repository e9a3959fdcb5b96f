-- A slot that gets its pictures from tile calls alone keeps just what has to be kept.
use Rattle.std.proofs.Common.{◌≡◌, ℕ, ◌+◌, ◌-◌, ◌<◌, ◌≤◌, Bool, true, false, cond, List, [], ◌∷◌, ◌++◌, inl, inr}
use Rattle.std.proofs.Common.{length, refl, sym, ◌∙◌, ap, subst, arith, true≢false, eq-eqb, ne_eqb, ltb-true}
use Rattle.std.proofs.Common.{ltb-false}
use Rattle.std.specs.Prelude.{nat_lt, ◌==◌, ◌&&◌, Option, Some, None, is_some}
use Rattle.spec_document.specs.declared.TileAt.{TileAt}
use Rattle.spec_document.specs.Document.{Document}
use Rattle.spec_document.specs.Limits.{IsDocument}
use Rattle.spec_damage.specs.Picture.{project}
use Rattle.spec_history.specs.Machine.{tile_of, stale, State, latest, has_stack}
use Rattle.spec_history.specs.History.{Entry, replay, document_of, IsStep, Run, is_changed}
use Rattle.spec_history.specs.Kept.{shown_version, or_earlier, damaged_at, kept}
use Rattle.spec_history.specs.KeptNext.{kept_next, kept_after}
use Rattle.spec_history.specs.Slots.{version_kept, IsPictured, IsSlot, slot_peek, IsExact, IsExactSlot, kept_peek}
use Rattle.spec_history.proofs.Moves.{MovesBy}
use Rattle.spec_history.proofs.LastTile.{shown-step, shown-unchanged}
use Rattle.spec_history.proofs.KeptMore.{kept-snoc}
use Rattle.spec_history.proofs.SinceMark.{moves_by-replay, counted-replay}
use Rattle.spec_history.proofs.SlotsHeld.{some_of, mark-within, keeps-by, slot-first, slot-stays}
use Rattle.spec_history.proofs.SlotsChanged.{same-then, no_tile, slot-marked, slot-new, slot-shown}

next-last : (now then_is : ℕ) → then_is ≡ now + 1 → kept_next then_is true false (Some now) ≡ Some then_is
next-last now then_is e =
    let same : (now + 1 == then_is) ≡ true = eq-eqb (now + 1) then_is (sym e) in
    ap (λ (is : Bool). cond (is && true) (Some then_is) (Some now)) same

next-below : (k now then_is : ℕ) → then_is ≡ now + 1 → k < now → kept_next then_is true false (Some k) ≡ Some k
next-below k now then_is e less =
    let apart : (k + 1 == then_is) ≡ false = ne_eqb (k + 1) then_is (λ is. omega (arith, is, e, less)) in
    ap (λ (is : Bool). cond (is && true) (Some then_is) (Some k)) apart

next-damaged : (k then_is : ℕ) → kept_next then_is true true (Some k) ≡ Some k
next-damaged k then_is = both (k + 1 == then_is) where
  both : (b : Bool) → cond (b && false) (Some then_is) (Some k) ≡ Some k
  both true = refl
  both false = refl

exact-whole : (picture : Option (List ℕ)) (good_to : ℕ) (marked : Bool) (mark now then_is : ℕ) (keeps : Option ℕ)
    → then_is ≡ now + 1 → (marked ≡ true → is_some picture ≡ true → good_to < mark) → mark ≤ now
    → IsExact keeps picture (version_kept now good_to marked)
    → IsExact (kept_next then_is true false keeps) picture (version_kept then_is good_to marked)
exact-whole None good_to marked mark now then_is keeps version older le exact = ap (kept_next then_is true false) exact
exact-whole (Some picture) good_to false mark now then_is keeps version older le exact =
    ap (kept_next then_is true false) exact ∙ next-last now then_is version
exact-whole (Some picture) good_to true mark now then_is keeps version older le exact =
    let low = older refl refl in
    ap (kept_next then_is true false) exact ∙ next-below good_to now then_is version (omega (arith, low, le))

exact-damaged : (picture : Option (List ℕ)) (version then_is : ℕ) (keeps : Option ℕ) → IsExact keeps picture version
    → IsExact (kept_next then_is true true keeps) picture version
exact-damaged None version then_is keeps exact = ap (kept_next then_is true true) exact
exact-damaged (Some picture) version then_is keeps exact = ap (kept_next then_is true true) exact ∙ next-damaged version then_is

-- ---- the laws

pub exact-first : (base : Document) (stack : ℕ) (at : TileAt) (good_to : ℕ) → has_stack base stack ≡ true
    → IsExactSlot base [] stack at None good_to true 0
exact-first base stack at good_to there = record { slot = slot-first base stack at good_to there; exact = refl }

pub exact-new : (base : Document) (es : List Entry) (e : Entry) (stack : ℕ) (at : TileAt) (good_to : ℕ)
    → Run base es → IsStep base (replay base es) es e → is_changed e.reply ≡ true
    → has_stack (document_of base es (latest (replay base es))) stack ≡ false
    → has_stack (document_of base (es ++ e ∷ []) (latest (replay base (es ++ e ∷ [])))) stack ≡ true
    → IsExactSlot base (es ++ e ∷ []) stack at None good_to true (latest (replay base (es ++ e ∷ [])))
exact-new base es e stack at good_to run step changed gone there =
    let slot = slot-new base es e stack at good_to run step changed gone there in record { slot = slot; exact = slot.pictured }

pub exact-stays : (base : Document) (es : List Entry) (e : Entry) (stack : ℕ) (at : TileAt) (picture : Option (List ℕ))
    (good_to : ℕ) (marked : Bool) (mark : ℕ)
    → IsDocument base → Run base es → IsStep base (replay base es) es e → IsExactSlot base es stack at picture good_to marked mark
    → shown_version e.kind e.reply stack at ≡ None
    → has_stack (document_of base (es ++ e ∷ []) (latest (replay base (es ++ e ∷ [])))) stack ≡ true
    → is_changed e.reply && damaged_at base (replay base (es ++ e ∷ [])) stack at (latest (replay base (es ++ e ∷ []))) ≡ false
    → IsExactSlot base (es ++ e ∷ []) stack at picture good_to marked mark
exact-stays base es e stack at picture good_to marked mark is run step was other there whole =
    record {
      slot = slot-stays base es e stack at picture good_to marked mark is run step was.slot other there whole;
      exact =
          go (is_changed e.reply) refl (moves_by-replay base es e step) whole;
    } where
      go : (change : Bool) → is_changed e.reply ≡ change
          → MovesBy (replay base es) (replay base (es ++ e ∷ [])) (is_changed e.reply)
          → change && damaged_at base (replay base (es ++ e ∷ [])) stack at (latest (replay base (es ++ e ∷ []))) ≡ false
          → IsExact (kept base (es ++ e ∷ []) stack at) picture (version_kept (latest (replay base (es ++ e ∷ []))) good_to marked)
      go false change (inl (no_change, same)) apart =
          let count : latest (replay base (es ++ e ∷ [])) ≡ latest (replay base es) = ap (λ ds. length ds - 1) same.documents in
          let E : ℕ → Type 0 = λ n. IsExact (kept base (es ++ e ∷ []) stack at) picture (version_kept n good_to marked) in
          let K : Option ℕ → Type 0 = λ o. IsExact o picture (version_kept (latest (replay base es)) good_to marked) in
          subst E (sym count) (subst K (sym (keeps-by base es e stack at false run step other change)) was.exact)
      go true change (inr (changed, one)) apart =
          let s = replay base es in
          let t = replay base (es ++ e ∷ []) in
          let stays = counted-replay base es t one in
          let K : Option ℕ → Type 0 = λ o. IsExact o picture (version_kept (latest t) good_to marked) in
          let next : kept base (es ++ e ∷ []) stack at ≡ kept_next (latest t) true false (kept base es stack at) =
          keeps-by base es e stack at true run step other change
          ∙ (λ i. kept_next (latest t) (there i) (apart i) (kept base es stack at)) in
          subst K (sym next)
          (exact-whole picture good_to marked mark (latest s) (latest t) (kept base es stack at) stays.version was.slot.older
          (mark-within base s (kept base es stack at) stack at picture good_to marked mark was.slot) was.exact)
      go true change (inl (no_change, same)) apart = absurd (true≢false (sym change ∙ no_change))
      go false change (inr (changed, one)) apart = absurd (true≢false (sym changed ∙ change))

pub exact-marked : (base : Document) (es : List Entry) (e : Entry) (stack : ℕ) (at : TileAt) (picture : Option (List ℕ))
    (good_to : ℕ) (marked : Bool) (mark : ℕ)
    → Run base es → IsStep base (replay base es) es e → IsExactSlot base es stack at picture good_to marked mark
    → is_changed e.reply ≡ true
    → has_stack (document_of base (es ++ e ∷ []) (latest (replay base (es ++ e ∷ [])))) stack ≡ true
    → damaged_at base (replay base (es ++ e ∷ [])) stack at (latest (replay base (es ++ e ∷ []))) ≡ true
    → IsExactSlot base (es ++ e ∷ []) stack at picture (version_kept (latest (replay base es)) good_to marked) true
    (latest (replay base (es ++ e ∷ [])))
exact-marked base es e stack at picture good_to marked mark run step was changed there damaged =
    let t = replay base (es ++ e ∷ []) in
    let version = version_kept (latest (replay base es)) good_to marked in
    let K : Option ℕ → Type 0 = λ o. IsExact o picture version in
    let next : kept base (es ++ e ∷ []) stack at ≡ kept_next (latest t) true true (kept base es stack at) =
    keeps-by base es e stack at true run step (no_tile e stack at (shown_version e.kind e.reply stack at) refl changed) changed
    ∙ (λ i. kept_next (latest t) (there i) (damaged i) (kept base es stack at)) in
    record {
      slot = slot-marked base es e stack at picture good_to marked mark run step was.slot changed there damaged;
      exact = subst K (sym next) (exact-damaged picture version (latest t) (kept base es stack at) was.exact);
    }

pub exact-shown : (base : Document) (es : List Entry) (e : Entry) (stack : ℕ) (at : TileAt) (old : Option (List ℕ)) (good_to : ℕ)
    (marked : Bool) (mark : ℕ) (picture : List ℕ) (version : ℕ)
    → Run base es → IsStep base (replay base es) es e → IsExactSlot base es stack at old good_to marked mark
    → shown_version e.kind e.reply stack at ≡ Some version
    → picture ≡ project (document_of base es (latest (replay base es))) stack at
    → IsExactSlot base (es ++ e ∷ []) stack at (Some picture) good_to false mark
exact-shown base es e stack at old good_to marked mark picture version run step was is same =
    let s = replay base es in
    let t = replay base (es ++ e ∷ []) in
    let as_was = same-then s t (is_changed e.reply) (moves_by-replay base es e step)
    (shown-unchanged e.kind e.reply stack at version is) in
    let count : latest t ≡ latest s = ap (λ ds. length ds - 1) as_was.documents in
    record {
      slot = slot-shown base es e stack at old good_to marked mark picture version run step was.slot is same;
      exact =
          kept-snoc base es e stack at run step
          ∙ (ap (λ o. or_earlier o (kept_after base t stack at e.reply (kept base es stack at))) is
          ∙ ap Some ((shown-step base s es e stack at version step is).version_is ∙ sym count));
    }

peek-is : (keeps : Option ℕ) (picture : Option (List ℕ)) (version now : ℕ) → (is_some picture ≡ true → version ≤ now)
    → IsExact keeps picture version → slot_peek picture version now ≡ kept_peek keeps now
peek-is keeps None version now within exact = ap (λ o. kept_peek o now) (sym exact)
peek-is keeps (Some picture) version now within exact = step (nat_lt version now) refl ∙ ap (λ o. kept_peek o now) (sym exact) where
  step : (before : Bool) → nat_lt version now ≡ before
      → cond before (stale (Some version) now) (tile_of version) ≡ cond (version == now) (tile_of now) (stale (Some version) now)
  step true e =
      let less = ltb-true version now e in
      let apart : (version == now) ≡ false = ne_eqb version now (λ is. omega (arith, is, less)) in
      ap (λ (b : Bool). cond b (tile_of now) (stale (Some version) now)) (sym apart)
  step false e =
      let most = ltb-false version now e in
      let le = within refl in
      let is : version ≡ now = omega (arith, most, le) in
      ap tile_of is ∙ ap (λ (b : Bool). cond b (tile_of now) (stale (Some version) now)) (sym (eq-eqb version now is))

pictured-within : (base : Document) (s : State) (keeps : Option ℕ) (stack : ℕ) (at : TileAt) (picture : Option (List ℕ))
    (version : ℕ) → IsPictured base s keeps stack at picture version → is_some picture ≡ true → version ≤ latest s
pictured-within base s keeps stack at None version pictured some = absurd (true≢false (sym some))
pictured-within base s keeps stack at (Some picture) version shown some = shown.within

pub exact-peek : (base : Document) (es : List Entry) (stack : ℕ) (at : TileAt) (picture : Option (List ℕ)) (good_to : ℕ)
    (marked : Bool) (mark : ℕ)
    → IsExactSlot base es stack at picture good_to marked mark
    → slot_peek picture (version_kept (latest (replay base es)) good_to marked) (latest (replay base es))
    ≡ kept_peek (kept base es stack at) (latest (replay base es))
exact-peek base es stack at picture good_to marked mark was =
    let s = replay base es in
    let version = version_kept (latest s) good_to marked in
    peek-is (kept base es stack at) picture version (latest s)
    (pictured-within base s (kept base es stack at) stack at picture version was.slot.pictured) was.exact

-- ---- where the latest version is kept the slot is clean

marked-clean : (base : Document) (s : State) (keeps : Option ℕ) (stack : ℕ) (at : TileAt) (picture : Option (List ℕ)) (good_to : ℕ)
    (marked : Bool) (mark : ℕ)
    → (marked ≡ true → is_some picture ≡ true → good_to < mark) → mark ≤ latest s
    → IsPictured base s keeps stack at picture (version_kept (latest s) good_to marked) → keeps ≡ Some (latest s) → marked ≡ false
marked-clean base s keeps stack at picture good_to false mark older le pictured e = refl
marked-clean base s keeps stack at None good_to true mark older le pictured e = cc
marked-clean base s keeps stack at (Some picture) good_to true mark older le shown e =
    let low = older refl refl in
    let enough = some_of keeps (latest s) good_to shown.enough e in
    absurd (omega (arith, low, le, enough))

pub kept-clean : (base : Document) (es : List Entry) (stack : ℕ) (at : TileAt) (picture : Option (List ℕ)) (good_to : ℕ)
    (marked : Bool) (mark : ℕ)
    → IsSlot base es stack at picture good_to marked mark → kept base es stack at ≡ Some (latest (replay base es)) → marked ≡ false
kept-clean base es stack at picture good_to marked mark slot e =
    marked-clean base (replay base es) (kept base es stack at) stack at picture good_to marked mark slot.older
    (mark-within base (replay base es) (kept base es stack at) stack at picture good_to marked mark slot) slot.pictured e
