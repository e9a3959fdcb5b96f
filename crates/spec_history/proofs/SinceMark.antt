-- Since the last version that marked a tile, its stack is there and it shows the same.
use Rattle.std.proofs.Common.{◌≡◌, ℕ, zero, suc, ◌-◌, ◌<◌, ◌≤◌, Bool, true, false, cond, List, [], ◌∷◌, ◌++◌, inl, inr}
use Rattle.std.proofs.Common.{⊎_elim, true≢false, refl, sym, ◌∙◌, ap, subst, arith}
use Rattle.std.specs.Prelude.{not, ◌&&◌, ◌||◌}
use Rattle.std.proofs.lemmas.Bool.{cases_lt}
use Rattle.spec_document.specs.declared.TileAt.{TileAt}
use Rattle.spec_document.specs.Document.{Document}
use Rattle.spec_document.specs.Limits.{IsDocument}
use Rattle.spec_damage.specs.Picture.{project}
use Rattle.spec_history.specs.Machine.{State, latest, document_at, has_stack}
use Rattle.spec_history.specs.History.{Entry, replay, document_of, IsStep, is_changed}
use Rattle.spec_history.specs.Kept.{damaged_at}
use Rattle.spec_history.specs.TilesStay.{StackStays, IsUndamaged}
use Rattle.spec_history.specs.Marks.{came_at, marks, last_of, marked_at}
use Rattle.spec_history.proofs.Growing.{replay-snoc}
use Rattle.spec_history.proofs.Stacks.{sound-replay, chained-replay}
use Rattle.spec_history.proofs.Moves.{AsBefore, OneMore, MovesBy, moves_by-step}
use Rattle.spec_history.proofs.KeptMore.{StaysBefore, stays-before}
use Rattle.spec_history.proofs.GroupsBehind.{caused-replay}
use Rattle.spec_history.proofs.TilesStay.{tile_keeps}

-- ---- the last number that passes

pub last_of-le : (test : ℕ → Bool) (n : ℕ) → last_of test n ≤ n
last_of-le test zero = omega arith
last_of-le test (suc n) = step (test (suc n)) (last_of-le test n) where
  step : (b : Bool) → last_of test n ≤ n → cond b (suc n) (last_of test n) ≤ suc n
  step true le = omega arith
  step false le = omega (arith, le)

none_since : (test : ℕ → Bool) (n v w : ℕ) → last_of test n ≤ v → v < w → w ≤ n → test w ≡ false
none_since test zero v w le less within = absurd (omega (arith, less, within))
none_since test (suc n) v w le less within = step (λ l k. none_since test n v w l less k) (test (suc n)) refl le where
  step : (last_of test n ≤ v → w ≤ n → test w ≡ false) → (b : Bool) → test (suc n) ≡ b → cond b (suc n) (last_of test n) ≤ v
      → test w ≡ false
  step rest true is l = absurd (omega (arith, l, less, within))
  step rest false is l =
      ⊎_elim (λ low. rest l (omega (arith, low)))
      (λ high. let e : suc n ≡ w = omega (arith, high, within) in ap test (sym e) ∙ is)
      (cases_lt w (suc n))

last_of-same : (p q : ℕ → Bool) (n : ℕ) → ((v : ℕ) → 1 ≤ v → v ≤ n → p v ≡ q v) → last_of p n ≡ last_of q n
last_of-same p q zero same = refl
last_of-same p q (suc n) same =
    let rest = last_of-same p q n (λ v low high. same v low (omega (arith, high))) in
    λ i. cond (same (suc n) (omega arith) (omega arith) i) (suc n) (rest i)

-- ---- since the mark

either : (a b : Bool) → a || b ≡ false → (a ≡ false) × (b ≡ false)
either true b e = absurd (true≢false e)
either false b e = (refl, e)

was_there : (now before : Bool) → now && not before ≡ false → now ≡ true → before ≡ true
was_there true true e is = refl
was_there true false e is = absurd (true≢false e)
was_there false before e is = absurd (true≢false (sym is))

there_down : (base : Document) (s : State) (stack v n : ℕ) → ((w : ℕ) → v < w → w ≤ latest s → came_at base s stack w ≡ false)
    → has_stack (document_at base s (latest s)) stack ≡ true
    → n ≤ latest s - v → v ≤ latest s → has_stack (document_at base s (latest s - n)) stack ≡ true
there_down base s stack v zero none there le within =
    let e : latest s ≡ latest s - 0 = omega arith in ap (λ u. has_stack (document_at base s u) stack) (sym e) ∙ there
there_down base s stack v (suc n) none there le within =
    let above = there_down base s stack v n none there (omega (arith, le)) within in
    let e : latest s - n - 1 ≡ latest s - suc n = omega arith in
    was_there (has_stack (document_at base s (latest s - n)) stack) (has_stack (document_at base s (latest s - suc n)) stack)
    (ap (λ u. has_stack (document_at base s (latest s - n)) stack && not (has_stack (document_at base s u) stack)) (sym e)
    ∙ none (latest s - n) (omega (arith, le, within)) (omega arith)) above

pub record SinceMark (base : Document) (s : State) (stack : ℕ) (at : TileAt) (v : ℕ) : Type 0 where
  pub there : StackStays base s stack v (latest s)
  pub whole : IsUndamaged base s stack at v (latest s)

pub since_mark : (base : Document) (s : State) (stack : ℕ) (at : TileAt) (v : ℕ) → marked_at base s stack at ≤ v → v ≤ latest s
    → has_stack (document_at base s (latest s)) stack ≡ true
    → SinceMark base s stack at v
since_mark base s stack at v le within there =
    let apart : (w : ℕ) → v < w → w ≤ latest s → (came_at base s stack w ≡ false) × (damaged_at base s stack at w ≡ false) =
    λ w low high. either (came_at base s stack w) (damaged_at base s stack at w)
    (none_since (marks base s stack at) (latest s) v w le low high) in
    record {
      there = λ u low high.
          let e : latest s - (latest s - u) ≡ u = omega (arith, high) in
          ap (λ k. has_stack (document_at base s k) stack) (sym e)
          ∙ there_down base s stack v (latest s - u) (λ w l h. (apart w l h).0) there (omega (arith, low)) within;
      whole = λ w low high. (apart w low high).1;
    }

pub same_since_mark : (base : Document) (es : List Entry) (stack : ℕ) (at : TileAt) (version : ℕ) → IsDocument base
    → marked_at base (replay base es) stack at ≤ version
    → version ≤ latest (replay base es) → has_stack (document_of base es (latest (replay base es))) stack ≡ true
    → StackStays base (replay base es) stack version (latest (replay base es))
    × (project (document_of base es version) stack at ≡ project (document_of base es (latest (replay base es))) stack at)
same_since_mark base es stack at version is le within there =
    let since = since_mark base (replay base es) stack at version le within there in (
      since.there,
      tile_keeps base (replay base es) stack at version (latest (replay base es)) (caused-replay base es is) within
          (omega arith) since.there since.whole,
    )

-- ---- one entry more

-- what was there before a version more comes is there afterwards
abbrev pub IsCounted : Document → State → Type 0
IsCounted base s = (t : State) → OneMore s t → StaysBefore base s t

pub counted-replay : (base : Document) (es : List Entry) → IsCounted base (replay base es)
counted-replay base es t one = stays-before base (replay base es) t (sound-replay base es) (chained-replay base es).causes one

pub moves_by-replay : (base : Document) (es : List Entry) (e : Entry) → IsStep base (replay base es) es e
    → MovesBy (replay base es) (replay base (es ++ e ∷ [])) (is_changed e.reply)
moves_by-replay base es e step =
    let P : State → Type 0 = λ t. MovesBy (replay base es) t (is_changed e.reply) in
    subst P (sym (replay-snoc base es e))
    (moves_by-step base (replay base es) es e (sound-replay base es) (chained-replay base es) step)

marks-before : (base : Document) (s t : State) (stack : ℕ) (at : TileAt) (v : ℕ) → StaysBefore base s t → 1 ≤ v → v ≤ latest s
    → marks base t stack at v ≡ marks base s stack at v
marks-before base s t stack at v stays low high =
    λ i. (has_stack (stays.documents v high i) stack && not (has_stack (stays.documents (v - 1) (omega (arith, high)) i) stack))
    || stays.damage stack at v low high i

pub marked-one : (base : Document) (s t : State) (stack : ℕ) (at : TileAt) → StaysBefore base s t
    → marked_at base t stack at ≡ cond (marks base t stack at (latest t)) (latest t) (marked_at base s stack at)
marked-one base s t stack at stays =
    let version = stays.version in
    let e : latest t ≡ suc (latest s) = omega (arith, version) in
    ap (last_of (marks base t stack at)) e
    ∙ (λ i. cond (marks base t stack at (sym e i)) (sym e i)
    (last_of-same (marks base t stack at) (marks base s stack at) (latest s)
    (λ v low high. marks-before base s t stack at v stays low high) i))

pub marked-same : (base : Document) (s t : State) (stack : ℕ) (at : TileAt) → AsBefore s t
    → marked_at base t stack at ≡ marked_at base s stack at
marked-same base s t stack at same =
    λ i. marked_at base (record s { documents = same.documents i; causes = same.causes i }) stack at

marked-moves_by : (base : Document) (s t : State) (stack : ℕ) (at : TileAt) (change : Bool) → IsCounted base s → MovesBy s t change
    → marked_at base t stack at ≡ cond (change && marks base t stack at (latest t)) (latest t) (marked_at base s stack at)
marked-moves_by base s t stack at change counted (inl (e, same)) =
    marked-same base s t stack at same
    ∙ ap (λ b. cond (b && marks base t stack at (latest t)) (latest t) (marked_at base s stack at)) (sym e)
marked-moves_by base s t stack at change counted (inr (e, one)) =
    marked-one base s t stack at (counted t one)
    ∙ ap (λ b. cond (b && marks base t stack at (latest t)) (latest t) (marked_at base s stack at)) (sym e)

pub marked-snoc : (base : Document) (es : List Entry) (e : Entry) (stack : ℕ) (at : TileAt) → IsStep base (replay base es) es e
    → marked_at base (replay base (es ++ e ∷ [])) stack at
    ≡ cond (is_changed e.reply && marks base (replay base (es ++ e ∷ [])) stack at (latest (replay base (es ++ e ∷ []))))
    (latest (replay base (es ++ e ∷ []))) (marked_at base (replay base es) stack at)
marked-snoc base es e stack at step =
    marked-moves_by base (replay base es) (replay base (es ++ e ∷ [])) stack at (is_changed e.reply) (counted-replay base es)
    (moves_by-replay base es e step)
