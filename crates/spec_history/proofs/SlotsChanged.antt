-- What may be kept of a tile when it is marked, comes anew, or gets a picture, and what it answers to a peek.
use Rattle.std.proofs.Common.{◌≡◌, ℕ, ◌+◌, ◌-◌, ◌<◌, ◌≤◌, Bool, true, false, cond, List, [], ◌∷◌, ◌++◌, inl, inr}
use Rattle.std.proofs.Common.{length, refl, sym, ◌∙◌, ap, arith, true≢false, ltb-true}
use Rattle.std.specs.Prelude.{not, nat_lt, ◌&&◌, ◌||◌, Option, Some, None, is_some, IfSome, slice_get, unwrap_or}
use Rattle.spec_document.specs.declared.TileAt.{TileAt}
use Rattle.spec_document.specs.Document.{Document}
use Rattle.spec_document.specs.Limits.{IsDocument}
use Rattle.spec_damage.specs.Picture.{project}
use Rattle.spec_history.specs.Machine.{tile_of, stale, State, latest, document_at, has_stack}
use Rattle.spec_history.specs.History.{Entry, replay, document_of, IsStep, Run, MayPeek, is_changed}
use Rattle.spec_history.specs.Kept.{shown_version, or_earlier, last_tile, damaged_at, kept_in, kept, MeetsKept}
use Rattle.spec_history.specs.KeptNext.{kept_next, kept_after}
use Rattle.spec_history.specs.Marks.{came_at, marks, marked_at}
use Rattle.spec_history.specs.Slots.{version_kept, IsShown, IsPictured, IsSlotOf, IsSlot, slot_peek}
use Rattle.spec_history.proofs.Moves.{AsBefore, OneMore, MovesBy}
use Rattle.spec_history.proofs.LastTile.{shown-step, shown-unchanged, last-run}
use Rattle.spec_history.proofs.KeptSame.{KeptTo, kept_to}
use Rattle.spec_history.proofs.KeptMore.{StaysBefore, kept-snoc}
use Rattle.spec_history.proofs.SinceMark.{same_since_mark, moves_by-replay, counted-replay, marked-same, marked-one}
use Rattle.spec_history.proofs.SlotsHeld.{some_of, if_all, damaged_keeps, mark-within, keeps-by}

-- ---- a version more, which damages the tile

damaged_none : (now : ℕ) (there : Bool) (o : Option ℕ) → o ≡ None → kept_next now there true o ≡ None
damaged_none now there None e = refl
damaged_none now there (Some k) e = cc

shown-damaged : (base : Document) (s t : State) (old new : Option ℕ) (stack : ℕ) (at : TileAt) (picture : Option (List ℕ))
    (version : ℕ) → StaysBefore base s t
    → ((k : ℕ) → new ≡ Some k → old ≡ Some k) → (old ≡ None → new ≡ None)
    → IsPictured base s old stack at picture version → IsPictured base t new stack at picture version
shown-damaged base s t old new stack at None version stays some none pictured = none pictured
shown-damaged base s t old new stack at (Some picture) version stays some none shown =
    let is = stays.documents version shown.within in
    let within = shown.within in
    let later = stays.version in
    record {
      within = omega (arith, within, later);
      there = ap (λ d. has_stack d stack) is ∙ shown.there;
      picture_is = shown.picture_is ∙ ap (λ d. project d stack at) (sym is);
      enough = if_all new version (λ k e. some_of old k version shown.enough (some k e));
    }

marks-damaged : (base : Document) (t : State) (stack : ℕ) (at : TileAt) → damaged_at base t stack at (latest t) ≡ true
    → marks base t stack at (latest t) ≡ true
marks-damaged base t stack at damaged =
    (λ i. came_at base t stack (latest t) || damaged i) ∙ either (came_at base t stack (latest t)) where
      either : (b : Bool) → b || true ≡ true
      either true = refl
      either false = refl

good_before : (marked : Bool) (good_to now mark : ℕ) → (marked ≡ true → good_to < mark) → mark ≤ now
    → version_kept now good_to marked < now + 1
good_before true good_to now mark older le = let low = older refl in omega (arith, low, le)
good_before false good_to now mark older le = omega arith

slot-damaged : (base : Document) (s t : State) (old new : Option ℕ) (stack : ℕ) (at : TileAt) (picture : Option (List ℕ))
    (good_to : ℕ) (marked : Bool) (mark : ℕ) → StaysBefore base s t
    → IsSlotOf base s old stack at picture good_to marked mark → has_stack (document_at base t (latest t)) stack ≡ true
    → damaged_at base t stack at (latest t) ≡ true
    → new ≡ kept_next (latest t) (has_stack (document_at base t (latest t)) stack) (damaged_at base t stack at (latest t)) old
    → IsSlotOf base t new stack at picture (version_kept (latest s) good_to marked) true (latest t)
slot-damaged base s t old new stack at picture good_to marked mark stays slot there damaged keeps =
    let version = stays.version in
    let next : new ≡ kept_next (latest t) (has_stack (document_at base t (latest t)) stack) true old =
    keeps ∙ ap (λ d. kept_next (latest t) (has_stack (document_at base t (latest t)) stack) d old) damaged in
    record {
      there = there;
      mark_is = sym (marked-one base s t stack at stays
          ∙ ap (λ b. cond b (latest t) (marked_at base s stack at)) (marks-damaged base t stack at damaged));
      pictured = shown-damaged base s t old new stack at picture (version_kept (latest s) good_to marked) stays
          (λ k e. damaged_keeps (latest t) (has_stack (document_at base t (latest t)) stack) old k (sym next ∙ e))
          (λ e. next ∙ damaged_none (latest t) (has_stack (document_at base t (latest t)) stack) old e) slot.pictured;
      clean = λ e. absurd (true≢false e);
      older = λ e some.
          let low = good_before marked good_to (latest s) mark (λ is. slot.older is some)
          (mark-within base s old stack at picture good_to marked mark slot) in omega (arith, low, version);
    }

pub one-more : (s t : State) (change : Bool) → MovesBy s t change → change ≡ true → OneMore s t
one-more s t change (inr (e, one)) is = one
one-more s t change (inl (e, same)) is = absurd (true≢false (sym is ∙ e))

pub same-then : (s t : State) (change : Bool) → MovesBy s t change → change ≡ false → AsBefore s t
same-then s t change (inl (e, same)) is = same
same-then s t change (inr (e, one)) is = absurd (true≢false (sym e ∙ is))

-- a version has no tile call with it
pub no_tile : (e : Entry) (stack : ℕ) (at : TileAt) (o : Option ℕ) → shown_version e.kind e.reply stack at ≡ o
    → is_changed e.reply ≡ true → o ≡ None
no_tile e stack at None is changed = refl
no_tile e stack at (Some v) is changed = absurd (true≢false (sym changed ∙ shown-unchanged e.kind e.reply stack at v is))

pub slot-marked : (base : Document) (es : List Entry) (e : Entry) (stack : ℕ) (at : TileAt) (picture : Option (List ℕ))
    (good_to : ℕ) (marked : Bool) (mark : ℕ)
    → Run base es → IsStep base (replay base es) es e → IsSlot base es stack at picture good_to marked mark
    → is_changed e.reply ≡ true
    → has_stack (document_of base (es ++ e ∷ []) (latest (replay base (es ++ e ∷ [])))) stack ≡ true
    → damaged_at base (replay base (es ++ e ∷ [])) stack at (latest (replay base (es ++ e ∷ []))) ≡ true
    → IsSlot base (es ++ e ∷ []) stack at picture (version_kept (latest (replay base es)) good_to marked) true
    (latest (replay base (es ++ e ∷ [])))
slot-marked base es e stack at picture good_to marked mark run step slot changed there damaged =
    let s = replay base es in
    let t = replay base (es ++ e ∷ []) in
    let one = one-more s t (is_changed e.reply) (moves_by-replay base es e step) changed in
    slot-damaged base s t (kept base es stack at) (kept base (es ++ e ∷ []) stack at) stack at picture good_to marked mark
    (counted-replay base es t one) slot there damaged
    (keeps-by base es e stack at true run step (no_tile e stack at (shown_version e.kind e.reply stack at) refl changed) changed)

-- ---- a stack that comes

missing-now : (base : Document) (s : State) (stack : ℕ) (at : TileAt) (a : ℕ) (o : Option ℕ) → IfSome o (KeptTo base s stack at a)
    → a ≤ latest s → has_stack (document_at base s (latest s)) stack ≡ false → o ≡ None
missing-now base s stack at a None to le gone = refl
missing-now base s stack at a (Some k) to le gone = absurd (true≢false (sym (to.there (latest s) le (omega arith)) ∙ gone))

kept-missing : (base : Document) (es : List Entry) (stack : ℕ) (at : TileAt) → Run base es
    → has_stack (document_of base es (latest (replay base es))) stack ≡ false → kept base es stack at ≡ None
kept-missing base es stack at run gone = step (last_tile stack at es) refl where
  step : (o : Option ℕ) → last_tile stack at es ≡ o → kept_in base (replay base es) stack at o ≡ None
  step None e = refl
  step (Some a) e =
      let le = last-run base es stack at a run e in
      missing-now base (replay base es) stack at a (kept_in base (replay base es) stack at (Some a))
      (kept_to base (replay base es) stack at a le) le gone

next-none : (now : ℕ) (there damaged : Bool) (o : Option ℕ) → o ≡ None → kept_next now there damaged o ≡ None
next-none now there damaged None e = refl
next-none now there damaged (Some k) e = cc

pub slot-new : (base : Document) (es : List Entry) (e : Entry) (stack : ℕ) (at : TileAt) (good_to : ℕ)
    → Run base es → IsStep base (replay base es) es e → is_changed e.reply ≡ true
    → has_stack (document_of base es (latest (replay base es))) stack ≡ false
    → has_stack (document_of base (es ++ e ∷ []) (latest (replay base (es ++ e ∷ [])))) stack ≡ true
    → IsSlot base (es ++ e ∷ []) stack at None good_to true (latest (replay base (es ++ e ∷ [])))
slot-new base es e stack at good_to run step changed gone there =
    let s = replay base es in
    let t = replay base (es ++ e ∷ []) in
    let one = one-more s t (is_changed e.reply) (moves_by-replay base es e step) changed in
    let stays = counted-replay base es t one in
    let version = stays.version in
    let before : latest t - 1 ≡ latest s = omega (arith, version) in
    let was : has_stack (document_at base t (latest t - 1)) stack ≡ false = ap (λ v. has_stack (document_at base t v) stack) before
    ∙ (ap (λ d. has_stack d stack) (stays.documents (latest s) (omega arith)) ∙ gone) in
    let marked : marks base t stack at (latest t) ≡ true = λ i. (there i && not (was i)) || damaged_at base t stack at (latest t) in
    record {
      there = there;
      mark_is = sym (marked-one base s t stack at stays ∙ ap (λ b. cond b (latest t) (marked_at base s stack at)) marked);
      pictured =
          keeps-by base es e stack at true run step
          (no_tile e stack at (shown_version e.kind e.reply stack at) refl changed) changed
          ∙ next-none (latest t) (has_stack (document_at base t (latest t)) stack) (damaged_at base t stack at (latest t))
          (kept base es stack at) (kept-missing base es stack at run gone);
      clean = λ e. absurd (true≢false e);
      older = λ e some. absurd (true≢false (sym some));
    }

-- ---- pictures

enough-now : (base : Document) (es : List Entry) (stack : ℕ) (at : TileAt) → Run base es
    → IfSome (kept base es stack at) (λ k. k ≤ latest (replay base es))
enough-now base es stack at run = step (last_tile stack at es) refl where
  within : (a : ℕ) (o : Option ℕ) → IfSome o (KeptTo base (replay base es) stack at a) → IfSome o (λ k. k ≤ latest (replay base es))
  within a None to = tt
  within a (Some k) to = to.within

  step : (o : Option ℕ) → last_tile stack at es ≡ o
      → IfSome (kept_in base (replay base es) stack at o) (λ k. k ≤ latest (replay base es))
  step None e = tt
  step (Some a) e = within a (kept_in base (replay base es) stack at (Some a))
      (kept_to base (replay base es) stack at a (last-run base es stack at a run e))

pub slot-filled : (base : Document) (es : List Entry) (stack : ℕ) (at : TileAt) (old : Option (List ℕ)) (good_to : ℕ)
    (marked : Bool) (mark : ℕ) (picture : List ℕ) (version : ℕ)
    → IsDocument base → Run base es → IsSlot base es stack at old good_to marked mark → mark ≤ version
    → version ≤ latest (replay base es) → picture ≡ project (document_of base es version) stack at
    → IsSlot base es stack at (Some picture) good_to false mark
slot-filled base es stack at old good_to marked mark picture version is run slot since within e =
    let mark_is = slot.mark_is in
    let same = same_since_mark base es stack at version is (omega (arith, mark_is, since)) within slot.there in
    record {
      there = slot.there;
      mark_is = slot.mark_is;
      pictured =
          record { within = omega arith; there = slot.there; picture_is = e ∙ same.1; enough = enough-now base es stack at run };
      clean = λ c. refl;
      older = λ c. absurd (true≢false (sym c));
    }

if_some : (o : Option ℕ) (v n : ℕ) → o ≡ Some v → v ≤ n → IfSome o (λ k. k ≤ n)
if_some o v n e le = if_all o n (λ k is. let same : v ≡ k = some_same (sym e ∙ is) in omega (arith, same, le)) where
  some_same : {a b : ℕ} → Some a ≡ Some b → a ≡ b
  some_same e = cc

pub slot-shown : (base : Document) (es : List Entry) (e : Entry) (stack : ℕ) (at : TileAt) (old : Option (List ℕ)) (good_to : ℕ)
    (marked : Bool) (mark : ℕ) (picture : List ℕ) (version : ℕ)
    → Run base es → IsStep base (replay base es) es e → IsSlot base es stack at old good_to marked mark
    → shown_version e.kind e.reply stack at ≡ Some version
    → picture ≡ project (document_of base es (latest (replay base es))) stack at
    → IsSlot base (es ++ e ∷ []) stack at (Some picture) good_to false mark
slot-shown base es e stack at old good_to marked mark picture version run step slot is same =
    let s = replay base es in
    let t = replay base (es ++ e ∷ []) in
    let as_was = same-then s t (is_changed e.reply) (moves_by-replay base es e step)
    (shown-unchanged e.kind e.reply stack at version is) in
    let shown = shown-step base s es e stack at version step is in
    let version_is = shown.version_is in
    let count : latest t ≡ latest s = ap (λ ds. length ds - 1) as_was.documents in
    let now : document_at base t (latest t) ≡ document_at base s (latest s) =
    ap (λ ds. unwrap_or (slice_get ds (latest t)) base) as_was.documents ∙ ap (document_at base s) count in
    let keeps : kept base (es ++ e ∷ []) stack at ≡ Some version =
    kept-snoc base es e stack at run step
    ∙ ap (λ o. or_earlier o (kept_after base t stack at e.reply (kept base es stack at))) is in
    record {
      there = ap (λ d. has_stack d stack) now ∙ slot.there;
      mark_is = slot.mark_is ∙ sym (marked-same base s t stack at as_was);
      pictured = record {
        within = omega arith;
        there = ap (λ d. has_stack d stack) now ∙ slot.there;
        picture_is = same ∙ ap (λ d. project d stack at) (sym now);
        enough = if_some (kept base (es ++ e ∷ []) stack at) version (latest t) keeps (omega (arith, version_is, count));
      };
      clean = λ c. refl;
      older = λ c. absurd (true≢false (sym c));
    }

-- ---- answers

clean-picture : (base : Document) (s : State) (keeps : Option ℕ) (stack : ℕ) (at : TileAt) (picture : Option (List ℕ))
    → is_some picture ≡ true → IsPictured base s keeps stack at picture (latest s)
    → picture ≡ Some (project (document_at base s (latest s)) stack at)
clean-picture base s keeps stack at None some pictured = absurd (true≢false (sym some))
clean-picture base s keeps stack at (Some picture) some shown = ap Some shown.picture_is

pub slot-clean : (base : Document) (es : List Entry) (stack : ℕ) (at : TileAt) (picture : Option (List ℕ)) (good_to mark : ℕ)
    → IsSlot base es stack at picture good_to false mark
    → picture ≡ Some (project (document_of base es (latest (replay base es))) stack at)
slot-clean base es stack at picture good_to mark slot =
    clean-picture base (replay base es) (kept base es stack at) stack at picture (slot.clean refl) slot.pictured

peek-meets : (keeps : Option ℕ) (version seen : ℕ) (picture : List ℕ) (before : Bool) → IfSome keeps (λ k. k ≤ version)
    → MeetsKept keeps (cond before (stale (Some version) seen) (tile_of version))
peek-meets None version seen picture before enough = tt
peek-meets (Some k) version seen picture true enough = enough
peek-meets (Some k) version seen picture false enough = enough

none-meets : (keeps : Option ℕ) (seen : ℕ) → keeps ≡ None → MeetsKept keeps (stale None seen)
none-meets None seen e = tt
none-meets (Some k) seen e = cc

may-peek : (base : Document) (s : State) (keeps : Option ℕ) (stack : ℕ) (at : TileAt) (picture : List ℕ) (version seen : ℕ)
    → seen ≤ latest s → IsShown base s keeps stack at picture version
    → (before : Bool) → nat_lt version seen ≡ before
    → MayPeek base s stack (cond before (stale (Some version) seen) (tile_of version))
may-peek base s keeps stack at picture version seen le shown true e = (le, ltb-true version seen e)
may-peek base s keeps stack at picture version seen le shown false e = (shown.within, shown.there)

pictured-peek : (base : Document) (s : State) (keeps : Option ℕ) (stack : ℕ) (at : TileAt) (picture : Option (List ℕ))
    (version seen : ℕ) → seen ≤ latest s → IsPictured base s keeps stack at picture version
    → MayPeek base s stack (slot_peek picture version seen) × MeetsKept keeps (slot_peek picture version seen)
pictured-peek base s keeps stack at None version seen le pictured = (le, none-meets keeps seen pictured)
pictured-peek base s keeps stack at (Some picture) version seen le shown = (
  may-peek base s keeps stack at picture version seen le shown (nat_lt version seen) refl,
  peek-meets keeps version seen picture (nat_lt version seen) shown.enough,
)

pub slot-peek : (base : Document) (es : List Entry) (stack : ℕ) (at : TileAt) (picture : Option (List ℕ)) (good_to : ℕ)
    (marked : Bool) (mark seen : ℕ)
    → IsSlot base es stack at picture good_to marked mark → seen ≤ latest (replay base es)
    → MayPeek base (replay base es) stack (slot_peek picture (version_kept (latest (replay base es)) good_to marked) seen)
    × MeetsKept (kept base es stack at) (slot_peek picture (version_kept (latest (replay base es)) good_to marked) seen)
slot-peek base es stack at picture good_to marked mark seen slot le =
    pictured-peek base (replay base es) (kept base es stack at) stack at picture
    (version_kept (latest (replay base es)) good_to marked) seen le slot.pictured
