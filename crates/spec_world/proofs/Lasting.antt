-- What stays of the earlier versions when a history grows, and what the last mark of a slot says.
use Rattle.std.proofs.Common.{◌≡◌, ℕ, zero, suc, ◌-◌, ◌≤◌, Bool, true, false, cond, not, ◌&&◌, ◌||◌, List, refl, sym}
use Rattle.std.proofs.Common.{◌∙◌, ap, subst, true≢false, inl, inr, arith}
use Rattle.std.specs.Prelude.{slice_get}
use Rattle.std.proofs.lemmas.Bool.{or_parts, cases_lt}
use Rattle.spec_document.specs.declared.TileAt.{TileAt}
use Rattle.spec_document.specs.Document.{Document}
use Rattle.spec_document.specs.Picture.{project}
use Rattle.spec_history.specs.Machine.{State, latest, document_at, has_stack}
use Rattle.spec_history.specs.Kept.{cause_meets, damaged_at}
use Rattle.spec_history.specs.TilesStay.{StackStays}
use Rattle.spec_history.specs.Marks.{came_at, marks, last_of, marked_at}
use Rattle.spec_world.specs.Right.{IsPictureAt}
use Rattle.spec_world.specs.RightSlot.{DamageIsSound, WasGoodEnough}

-- the versions of s are those of t, with the groups behind them
pub record Lasts (base : Document) (s t : State) : Type 0 where
  pub versions : latest s ≤ latest t
  pub documents : (v : ℕ) → v ≤ latest s → document_at base t v ≡ document_at base s v
  pub causes : (v : ℕ) → 1 ≤ v → v ≤ latest s → slice_get t.causes (v - 1) ≡ slice_get s.causes (v - 1)

pub damaged-lasts : (base : Document) (s t : State) (stack : ℕ) (at : TileAt) (v : ℕ) → Lasts base s t → 1 ≤ v → v ≤ latest s
    → damaged_at base t stack at v ≡ damaged_at base s stack at v
damaged-lasts base s t stack at v l some within = ap (cause_meets stack base.width base.height at) (l.causes v some within)

pub stack-lasts : (base : Document) (s t : State) (stack v : ℕ) → Lasts base s t → v ≤ latest s
    → has_stack (document_at base t v) stack ≡ has_stack (document_at base s v) stack
stack-lasts base s t stack v l within = ap (λ d. has_stack d stack) (l.documents v within)

come-lasts : (base : Document) (s t : State) (stack v : ℕ) → Lasts base s t → v ≤ latest s
    → came_at base t stack v ≡ came_at base s stack v
come-lasts base s t stack v l within =
    λ i. stack-lasts base s t stack v l within i && not (stack-lasts base s t stack (v - 1) l (omega arith) i)

pub marks-last : (base : Document) (s t : State) (stack : ℕ) (at : TileAt) (v : ℕ) → Lasts base s t → 1 ≤ v → v ≤ latest s
    → marks base t stack at v ≡ marks base s stack at v
marks-last base s t stack at v l some within =
    λ i. come-lasts base s t stack v l within i || damaged-lasts base s t stack at v l some within i

pub picture-lasts : (base : Document) (s t : State) (stack : ℕ) (at : TileAt) (v : ℕ) (picture : List ℕ) → Lasts base s t
    → IsPictureAt base s stack at v picture → IsPictureAt base t stack at v picture
picture-lasts base s t stack at v picture l is =
    let there = is.there in
    let more = l.versions in
    record {
      there = omega arith;
      has = stack-lasts base s t stack v l there ∙ is.has;
      is = is.is ∙ ap (λ d. project d stack at) (sym (l.documents v there));
    }

pub was_there-before : (base : Document) (s t : State) (stack a : ℕ) → Lasts base s t → StackStays base t stack a (latest t)
    → StackStays base s stack a (latest s)
was_there-before base s t stack a l there v from within =
    let more = l.versions in sym (stack-lasts base s t stack v l within) ∙ there v from (omega arith)

pub good_enough-lasts : (base : Document) (s t : State) (stack : ℕ) (at : TileAt) (a good_to : ℕ) → Lasts base s t
    → WasGoodEnough base s stack at a good_to → WasGoodEnough base t stack at a good_to
good_enough-lasts base s t stack at a good_to l w =
    let more = l.versions in
    let later = w.later in
    let there = w.there in
    record {
      version = w.version;
      later = later;
      there = omega arith;
      damaged = damaged-lasts base s t stack at w.version l (omega arith) there ∙ w.damaged;
      good = w.good;
    }

-- ---- the last mark

pub last_of-same : (p q : ℕ → Bool) (n : ℕ) → ((v : ℕ) → 1 ≤ v → v ≤ n → p v ≡ q v) → last_of p n ≡ last_of q n
last_of-same p q zero same = refl
last_of-same p q (suc n) same =
    λ i. cond (same (suc n) (omega arith) (omega arith) i) (suc n)
    (last_of-same p q n (λ v some within. same v some (omega (arith, within))) i)

pub marked_at-lasts : (base : Document) (s t : State) (stack : ℕ) (at : TileAt) → Lasts base s t → latest t ≡ latest s
    → marked_at base t stack at ≡ marked_at base s stack at
marked_at-lasts base s t stack at l same =
    ap (last_of (marks base t stack at)) same
    ∙ last_of-same (marks base t stack at) (marks base s stack at) (latest s)
    (λ v some within. marks-last base s t stack at v l some within)

-- of one version more
pub marked_at-next : (base : Document) (s t : State) (stack : ℕ) (at : TileAt) → Lasts base s t → latest t ≡ suc (latest s)
    → marked_at base t stack at ≡ cond (marks base t stack at (latest t)) (latest t) (marked_at base s stack at)
marked_at-next base s t stack at l next =
    let old = last_of-same (marks base t stack at) (marks base s stack at) (latest s)
    (λ v some within. marks-last base s t stack at v l some within) in
    let P : ℕ → Type 0 = λ n. last_of (marks base t stack at) n ≡ cond (marks base t stack at n) n (marked_at base s stack at) in
    subst P (sym next) (ap (λ n. cond (marks base t stack at (suc (latest s))) (suc (latest s)) n) old)

last-above : (b : Bool) (n rest j : ℕ) → cond b (suc n) rest ≤ j → j ≤ n → (b ≡ false) × (rest ≤ j)
last-above true n rest j le within = absurd (omega (arith, le, within))
last-above false n rest j le within = (refl, le)

-- a stack that is there and has not come was there before
pub was-there : (now before : Bool) → now ≡ true → (now && not before) ≡ false → before ≡ true
was-there true true e h = refl
was-there true false e h = absurd (true≢false h)
was-there false before e h = absurd (true≢false (sym e))

-- What a tile showed at a version, and shows still: no later version up to n marks its slot.
pub record Unchanged (base : Document) (s : State) (stack : ℕ) (at : TileAt) (j n : ℕ) : Type 0 where
  pub has : has_stack (document_at base s j) stack ≡ true
  pub same : project (document_at base s j) stack at ≡ project (document_at base s n) stack at

pub unmarked-same : (base : Document) (s : State) (stack : ℕ) (at : TileAt) (n : ℕ) → DamageIsSound base s → 1 ≤ n → n ≤ latest s
    → has_stack (document_at base s n) stack ≡ true → marks base s stack at n ≡ false → Unchanged base s stack at (n - 1) n
unmarked-same base s stack at n sound some within has unmarked =
    let parts = or_parts (came_at base s stack n) (damaged_at base s stack at n) unmarked in
    let before = was-there (has_stack (document_at base s n) stack) (has_stack (document_at base s (n - 1)) stack) has parts.0 in
    record { has = before; same = sym (sound n some within stack at before has parts.1) }

pub unchanged : (base : Document) (s : State) (stack : ℕ) (at : TileAt) (j n : ℕ) → DamageIsSound base s → n ≤ latest s → j ≤ n
    → has_stack (document_at base s n) stack ≡ true → last_of (marks base s stack at) n ≤ j → Unchanged base s stack at j n
unchanged base s stack at j zero sound within le has last =
    let e : j ≡ 0 = omega arith in
    record {
      has = ap (λ k. has_stack (document_at base s k) stack) e ∙ has;
      same =
          ap (λ k. project (document_at base s k) stack at) e;
    }
unchanged base s stack at j (suc n) sound within le has last =
    elim (cases_lt j (suc n)) as (λ _. Unchanged base s stack at j (suc n)) [
      | inl below ↦
          let above = last-above (marks base s stack at (suc n)) n (last_of (marks base s stack at) n) j last (omega arith) in
          let e : suc n - 1 ≡ n = omega arith in
          let P : ℕ → Type 0 = λ k. Unchanged base s stack at k (suc n) in
          let step = subst P e (unmarked-same base s stack at (suc n) sound (omega arith) within has above.0) in
          let before = unchanged base s stack at j n sound (omega arith) (omega arith) step.has above.1 in
          record { has = before.has; same = before.same ∙ step.same }
      | inr above ↦
          let e : j ≡ suc n = omega arith in
          record {
            has = ap (λ k. has_stack (document_at base s k) stack) e ∙ has;
            same =
                ap (λ k. project (document_at base s k) stack at) e;
          }
    ]
