-- A tile shows the same until a version damages it.
use Rattle.std.proofs.Common.{◌≡◌, ℕ, zero, suc, ◌+◌, ◌-◌, ◌<◌, ◌≤◌, true, false, List, [], ◌∷◌, length, inl, inr}
use Rattle.std.proofs.Common.{refl, ◌⊎◌, sym, ◌∙◌, ap, subst, arith}
use Rattle.std.specs.Prelude.{not, Some, Ok, slice_get}
use Rattle.std.specs.List.{AllByRecursion, list_any}
use Rattle.spec_document.specs.declared.TileAt.{TileAt}
use Rattle.spec_document.specs.Rect.{do_meet}
use Rattle.spec_document.specs.Grid.{tile_rect}
use Rattle.spec_document.specs.Document.{Document}
use Rattle.spec_document.specs.Limits.{IsDocument}
use Rattle.spec_damage.specs.Picture.{project}
use Rattle.spec_edit.specs.Apply.{At, apply_group}
use Rattle.spec_damage.specs.Damage.{group_damage}
use Rattle.spec_damage.proofs.Groups.{Ready, group_same, group_sides}
use Rattle.spec_damage.proofs.SameTiles.{tiles_same}
use Rattle.spec_history.specs.Machine.{Cause, State, latest, document_at, has_stack}
use Rattle.spec_history.specs.History.{Entry, replay, document_of}
use Rattle.spec_history.specs.Kept.{cause_meets, damaged_at}
use Rattle.spec_history.specs.TilesStay.{StackStays, IsUndamaged, GroupKeepsTiles, VersionKeepsTiles}
use Rattle.spec_history.proofs.Stacks.{chained-replay}
use Rattle.spec_history.proofs.GroupsBehind.{IsTurn, IsCaused, caused-replay}

group_keeps : (c : Cause) (after : At) (w h : ℕ) (stack : ℕ) (at : TileAt) → Ready c.old
    → apply_group c.old c.edits c.tables ≡ Ok after → c.old.document.width ≡ w → c.old.document.height ≡ h
    → has_stack c.old.document stack ≡ true → has_stack after.document stack ≡ true → cause_meets stack w h at (Some c) ≡ false
    → project c.old.document stack at ≡ project after.document stack at
group_keeps c after w h stack at ready made wide high in_old in_new apart =
    let sides = group_sides c.edits 0 c.old after c.tables made in
    tiles_same c.old.document after.document stack (group_damage c.old c.edits c.tables stack) sides.0 sides.1
    (group_same c.edits 0 c.old after c.tables ready made stack (ap not in_old) (ap not in_new)) at
    ((λ i. list_any (λ r. do_meet r (tile_rect (wide i) (high i) at)) (group_damage c.old c.edits c.tables stack)) ∙ apart)

turn_keeps : (c : Cause) (old new : Document) (w h : ℕ) (stack : ℕ) (at : TileAt) → Ready c.old → IsTurn c old new
    → c.old.document.width ≡ w → c.old.document.height ≡ h
    → has_stack old stack ≡ true → has_stack new stack ≡ true → cause_meets stack w h at (Some c) ≡ false
    → project old stack at ≡ project new stack at
turn_keeps c old new w h stack at ready turn wide high in_old in_new apart = go turn.ends where
  go : ((old ≡ c.old.document) × (new ≡ turn.after.document)) ⊎ ((old ≡ turn.after.document) × (new ≡ c.old.document))
      → project old stack at ≡ project new stack at
  go (inl (p, q)) =
      ap (λ d. project d stack at) p
      ∙ (group_keeps c turn.after w h stack at ready turn.made wide high (ap (λ d. has_stack d stack) (sym p)
      ∙ in_old) (ap (λ d. has_stack d stack) (sym q) ∙ in_new) apart
      ∙ ap (λ d. project d stack at) (sym q))
  go (inr (p, q)) =
      ap (λ d. project d stack at) p
      ∙ (sym (group_keeps c turn.after w h stack at ready turn.made wide high (ap (λ d. has_stack d stack) (sym q)
      ∙ in_new) (ap (λ d. has_stack d stack) (sym p) ∙ in_old) apart)
      ∙ ap (λ d. project d stack at) (sym q))

pub one_keeps : (base : Document) (s : State) (stack : ℕ) (at : TileAt) (v : ℕ) → IsCaused base s → v < latest s
    → has_stack (document_at base s v) stack ≡ true → has_stack (document_at base s (v + 1)) stack ≡ true
    → damaged_at base s stack at (v + 1) ≡ false
    → project (document_at base s v) stack at ≡ project (document_at base s (v + 1)) stack at
one_keeps base s stack at v caused less in_old in_new whole =
    let g = caused.each v less in
    let number : v ≡ v + 1 - 1 = omega arith in
    let is : slice_get s.causes (v + 1 - 1) ≡ Some g.of.cause = ap (slice_get s.causes) (sym number) ∙ g.of.there in
    turn_keeps g.of.cause (document_at base s v)
    (document_at base s (v + 1)) base.width base.height stack at g.ready g.of.turn g.width_is g.height_is in_old in_new
    (ap (cause_meets stack base.width base.height at) (sym is) ∙ whole)

steps_keep : (base : Document) (s : State) (stack : ℕ) (at : TileAt) (a n : ℕ) → IsCaused base s → a + n ≤ latest s
    → StackStays base s stack a (a + n) → IsUndamaged base s stack at a (a + n)
    → project (document_at base s a) stack at ≡ project (document_at base s (a + n)) stack at
steps_keep base s stack at a zero caused within there whole =
    let e : a ≡ a + 0 = omega arith in ap (λ v. project (document_at base s v) stack at) e
steps_keep base s stack at a (suc n) caused within there whole =
    let e : a + n + 1 ≡ a + suc n = omega arith in
    steps_keep base s stack at a n caused (omega (arith, within)) (λ v low high. there v low (omega (arith, high)))
    (λ w low high. whole w low (omega (arith, high)))
    ∙ (one_keeps base s stack at (a + n) caused (omega (arith, within)) (there (a + n) (omega arith) (omega arith))
    (there (a + n + 1) (omega arith) (omega arith))
    (whole (a + n + 1) (omega arith) (omega arith))
    ∙ ap (λ v. project (document_at base s v) stack at) e)

pub tile_keeps : (base : Document) (s : State) (stack : ℕ) (at : TileAt) (a b : ℕ) → IsCaused base s → a ≤ b → b ≤ latest s
    → StackStays base s stack a b → IsUndamaged base s stack at a b
    → project (document_at base s a) stack at ≡ project (document_at base s b) stack at
tile_keeps base s stack at a b caused le within there whole =
    let e : a + (b - a) ≡ b = omega arith in
    let S : ℕ → Type 0 = λ n. StackStays base s stack a n in
    let U : ℕ → Type 0 = λ n. IsUndamaged base s stack at a n in
    steps_keep base s stack at a (b - a) caused (omega arith) (subst S (sym e) there) (subst U (sym e) whole)
    ∙ ap (λ v. project (document_at base s v) stack at) e

pub tile_until_damaged : (base : Document) (es : List Entry) (stack : ℕ) (at : TileAt) (a b : ℕ) → IsDocument base → a ≤ b
    → b ≤ latest (replay base es)
    → StackStays base (replay base es) stack a b → IsUndamaged base (replay base es) stack at a b
    → project (document_of base es a) stack at ≡ project (document_of base es b) stack at
tile_until_damaged base es stack at a b is le within there whole =
    tile_keeps base (replay base es) stack at a b (caused-replay base es is) le within there whole

-- ---- the groups and versions of a history

-- each element is one that is found at a place
all-found : {A : Type 0} (P : A → Type 0) (xs : List A) → ((i : ℕ) (x : A) → i < length xs → slice_get xs i ≡ Some x → P x)
    → AllByRecursion P xs
all-found P [] h = tt
all-found P (x ∷ xs) h = (h 0 x (omega arith) refl, all-found P xs (λ i y less e. h (suc i) y (omega (arith, less)) e))

cause-keeps : (c : Cause) → Ready c.old → GroupKeepsTiles c
cause-keeps c ready new made stack at in_old in_new apart =
    let sides = group_sides c.edits 0 c.old new c.tables made in
    tiles_same c.old.document new.document stack (group_damage c.old c.edits c.tables stack) sides.0 sides.1
    (group_same c.edits 0 c.old new c.tables ready made stack (ap not in_old) (ap not in_new)) at apart

pub groups-keep : (base : Document) (es : List Entry) → IsDocument base → AllByRecursion GroupKeepsTiles (replay base es).causes
groups-keep base es is =
    let s = replay base es in
    let caused = caused-replay base es is in
    let count = (chained-replay base es).causes in
    all-found GroupKeepsTiles s.causes (λ i c less e.
    let g = caused.each i (omega (arith, less, count)) in
    let same : g.of.cause ≡ c = some_is (sym g.of.there ∙ e) in
    subst GroupKeepsTiles same (cause-keeps g.of.cause g.ready)) where
      some_is : {a b : Cause} → Some a ≡ Some b → a ≡ b
      some_is e = cc

pub version-keeps : (base : Document) (es : List Entry) (version : ℕ) → IsDocument base → 1 ≤ version
    → version ≤ latest (replay base es) → VersionKeepsTiles base (replay base es) version
version-keeps base es version is low high stack at in_old in_new whole =
    let s = replay base es in
    let e : version - 1 + 1 ≡ version = omega (arith, low) in
    sym (one_keeps base s stack at (version - 1) (caused-replay base es is) (omega (arith, low, high)) in_old
    (ap (λ v. has_stack (document_at base s v) stack) e ∙ in_new) (ap (damaged_at base s stack at) e ∙ whole)
    ∙ ap (λ v. project (document_at base s v) stack at) e)
