-- Lists beside each other, place by place and element by element.
use Rattle.std.proofs.Common.{◌≡◌, ℕ, suc, ◌+◌, ◌<◌, List, [], ◌∷◌, ◌++◌, length, refl, ap, subst, arith}
use Rattle.std.specs.Prelude.{slice_index_or}
use Rattle.std.specs.List.{AllByRecursion, AllZip}
use Rattle.xl_sessions.specs.Outcomes.{FromFirst}

-- ---- what each call for an element has left

module _ {X : Type 0} where
  -- a call that took a and left b
  abbrev pub Changes : (R : X → X → Type 0) → (x y : X) → Type 0
  Changes R x y = (a : X) × (b : X) × (a ≡ x) × (b ≡ y) × R a b

  change_made : (R : X → X → Type 0) (x y : X) → Changes R x y → R x y
  change_made R x y made = subst (λ a. R a y) made.2 (subst (R made.0) made.3 made.4)

  zip_of : (R : X → X → Type 0) (xs ys : List X) → length ys ≡ length xs
      → ((i : ℕ) (d : X) → i < length xs → R (slice_index_or xs i d) (slice_index_or ys i d)) → AllZip R xs ys
  zip_of R [] [] same each = tt
  zip_of R [] (y ∷ ys) same each = absurd (omega (arith, same))
  zip_of R (x ∷ xs) [] same each = absurd (omega (arith, same))
  zip_of R (x ∷ xs) (y ∷ ys) same each =
      (each 0 x (omega arith), zip_of R xs ys (omega (arith, same)) (λ i d lt. each (suc i) d (omega (arith, lt))))

  pub zip_changed : (R : X → X → Type 0) (xs ys : List X) → length ys ≡ length xs
      → ((i : ℕ) (d : X) → i < length xs → Changes R (slice_index_or xs i d) (slice_index_or ys i d)) → AllZip R xs ys
  zip_changed R xs ys same each = zip_of R xs ys same
      (λ i d lt. change_made R (slice_index_or xs i d) (slice_index_or ys i d) (each i d lt))

  -- what holds of each that was left
  pub all_left : (P : X → Type 0) (xs ys : List X) → AllZip (λ x y. P y) xs ys → AllByRecursion P ys
  all_left P [] [] all = tt
  all_left P [] (y ∷ ys) all = absurd all
  all_left P (x ∷ xs) [] all = absurd all
  all_left P (x ∷ xs) (y ∷ ys) all = (all.0, all_left P xs ys all.1)

-- ---- one list for another

pub zip_length : {A B : Type 0} (R : A → B → Type 0) (xs : List A) (ys : List B) → AllZip R xs ys → length ys ≡ length xs
zip_length R [] [] all = refl
zip_length R [] (y ∷ ys) all = absurd all
zip_length R (x ∷ xs) [] all = absurd all
zip_length R (x ∷ xs) (y ∷ ys) all = ap suc (zip_length R xs ys all.1)

pub zip_through : {A B C : Type 0} (R : A → B → Type 0) (S : B → C → Type 0) (T : A → C → Type 0) (xs : List A) (ys : List B)
    (zs : List C)
    → ((a : A) (b : B) (c : C) → R a b → S b c → T a c) → AllZip R xs ys → AllZip S ys zs → AllZip T xs zs
zip_through R S T [] [] [] to first second = tt
zip_through R S T [] [] (z ∷ zs) to first second = absurd second
zip_through R S T [] (y ∷ ys) zs to first second = absurd first
zip_through R S T (x ∷ xs) [] zs to first second = absurd first
zip_through R S T (x ∷ xs) (y ∷ ys) [] to first second = absurd second
zip_through R S T (x ∷ xs) (y ∷ ys) (z ∷ zs) to first second =
    (to x y z first.0 second.0, zip_through R S T xs ys zs to first.1 second.1)

-- by the numbers of the first list
pub zip_from : {A B : Type 0} (Q : ℕ → A → Type 0) (R : A → B → Type 0) (S : ℕ → B → Type 0) (first : ℕ) (xs : List A) (ys : List B)
    → ((n : ℕ) (a : A) (b : B) → Q n a → R a b → S n b) → FromFirst Q first xs → AllZip R xs ys → FromFirst S first ys
zip_from Q R S first [] [] to numbered all = tt
zip_from Q R S first [] (y ∷ ys) to numbered all = absurd all
zip_from Q R S first (x ∷ xs) [] to numbered all = absurd all
zip_from Q R S first (x ∷ xs) (y ∷ ys) to numbered all =
    (to first x y numbered.0 all.0, zip_from Q R S (suc first) xs ys to numbered.1 all.1)

-- ---- numbered lists

pub from_first_more : {P : Type 0} (Q : ℕ → P → Type 0) (first : ℕ) (ps : List P) (p : P) → FromFirst Q first ps
    → Q (first + length ps) p → FromFirst Q first (ps ++ p ∷ [])
from_first_more Q first [] p all last = let same : first + 0 ≡ first = omega arith in (subst (λ n. Q n p) same last, tt)
from_first_more Q first (x ∷ ps) p all last =
    let same : first + suc (length ps) ≡ suc first + length ps = omega arith in
    (all.0, from_first_more Q (suc first) ps p all.1 (subst (λ n. Q n p) same last))

pub from_first_each : {P : Type 0} (Q : ℕ → P → Type 0) (R : P → Type 0) (first : ℕ) (ps : List P)
    → ((n : ℕ) (p : P) → Q n p → R p) → FromFirst Q first ps → AllByRecursion R ps
from_first_each Q R first [] to all = tt
from_first_each Q R first (p ∷ ps) to all = (to first p all.0, from_first_each Q R (suc first) ps to all.1)

-- one fact for another
pub from_first_map : {P : Type 0} (Q R : ℕ → P → Type 0) (first : ℕ) (ps : List P) → ((n : ℕ) (p : P) → Q n p → R n p)
    → FromFirst Q first ps → FromFirst R first ps
from_first_map Q R first [] to all = tt
from_first_map Q R first (p ∷ ps) to all = (to first p all.0, from_first_map Q R (suc first) ps to all.1)

-- with what else is known of each
pub from_first_with : {P : Type 0} (Q : ℕ → P → Type 0) (R : P → Type 0) (S : ℕ → P → Type 0) (first : ℕ) (ps : List P)
    → ((n : ℕ) (p : P) → Q n p → R p → S n p)
    → FromFirst Q first ps → AllByRecursion R ps → FromFirst S first ps
from_first_with Q R S first [] to all known = tt
from_first_with Q R S first (p ∷ ps) to all known =
    (to first p all.0 known.0, from_first_with Q R S (suc first) ps to all.1 known.1)

-- those below a bound
pub from_first_below : {P : Type 0} (Q : ℕ → P → Type 0) (R : P → Type 0) (bound first : ℕ) (ps : List P)
    → ((n : ℕ) (p : P) → n < bound → Q n p → R p)
    → first + length ps ≡ bound → FromFirst Q first ps → AllByRecursion R ps
from_first_below Q R bound first [] to count all = tt
from_first_below Q R bound first (p ∷ ps) to count all =
    (to first p (omega (arith, count)) all.0, from_first_below Q R bound (suc first) ps to (omega (arith, count)) all.1)
