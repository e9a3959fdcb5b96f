-- What a forest has after a branch was put in by a path.
use Rattle.std.proofs.Common.{◌≡◌, ℕ, zero, suc, ◌+◌, ◌<◌, ◌≤◌, max, false, List, [], ◌∷◌, ◌++◌, length, nat_eq, refl}
use Rattle.std.proofs.Common.{sym, ◌∙◌, ap, arith}
use Rattle.std.specs.Prelude.{Option, Some, None, option_map}
use Rattle.std.specs.List.{AllByRecursion, IsDistinct}
use Rattle.std.proofs.lemmas.List.{append-nil, append_assoc}
use Rattle.std.proofs.lemmas.Bool.{ne_eqb}
use Rattle.std.proofs.lemmas.Map.Keys.{IsDistinct-head, IsDistinct-tail, IsDistinct-cons}
use Rattle.spec_document.specs.Forest.{Forest, none, leaf, group, size, levels, ids}
use Rattle.spec_document.specs.Changes.{above, put_last}
use Rattle.spec_document.proofs.Distinct.{ids-above}
use Rattle.spec_document.proofs.Changed.{size-above, levels-above}

module _ {L G : Type 0} where
  -- an option that was mapped to something
  mapped : (f : Forest L G → Forest L G) (o : Option (Forest L G)) (new : Forest L G) → option_map f o ≡ Some new
      → (x : Forest L G) × (o ≡ Some x) × (f x ≡ new)
  mapped f None new e = cc
  mapped f (Some x) new e = (x, refl, cc)

  pub size-put_last : (path : List ℕ) (branch old new : Forest L G) → put_last path branch old ≡ Some new
      → size new ≡ size old + size branch
  size-put_last [] branch old new e = let is : above old branch ≡ new = cc in ap size (sym is) ∙ size-above old branch
  size-put_last (place ∷ path) branch none new e = cc
  size-put_last (zero ∷ path) branch (leaf id w u) new e = cc
  size-put_last (zero ∷ path) branch (group id w c u) new e =
      let m = mapped (λ x. group id w x u) (put_last path branch c) new e in
      ap size (sym m.2) ∙ omega (arith, size-put_last path branch c m.0 m.1)
  size-put_last (suc place ∷ path) branch (leaf id w u) new e =
      let m = mapped (leaf id w) (put_last (place ∷ path) branch u) new e in
      ap size (sym m.2) ∙ omega (arith, size-put_last (place ∷ path) branch u m.0 m.1)
  size-put_last (suc place ∷ path) branch (group id w c u) new e =
      let m = mapped (group id w c) (put_last (place ∷ path) branch u) new e in
      ap size (sym m.2) ∙ omega (arith, size-put_last (place ∷ path) branch u m.0 m.1)

  pub levels-put_last : (path : List ℕ) (branch old new : Forest L G) → put_last path branch old ≡ Some new
      → levels new ≤ max (levels old) (length path + levels branch)
  levels-put_last [] branch old new e =
      let is : above old branch ≡ new = cc in omega (arith, ap levels is, levels-above old branch)
  levels-put_last (place ∷ path) branch none new e = cc
  levels-put_last (zero ∷ path) branch (leaf id w u) new e = cc
  levels-put_last (zero ∷ path) branch (group id w c u) new e =
      let m = mapped (λ x. group id w x u) (put_last path branch c) new e in
      omega (arith, ap levels m.2, levels-put_last path branch c m.0 m.1)
  levels-put_last (suc place ∷ path) branch (leaf id w u) new e =
      let m = mapped (leaf id w) (put_last (place ∷ path) branch u) new e in
      omega (arith, ap levels m.2, levels-put_last (place ∷ path) branch u m.0 m.1)
  levels-put_last (suc place ∷ path) branch (group id w c u) new e =
      let m = mapped (group id w c) (put_last (place ∷ path) branch u) new e in
      omega (arith, ap levels m.2, levels-put_last (place ∷ path) branch u m.0 m.1)

  -- the ids of a branch stand somewhere among the others
  pub ids-put_last : (path : List ℕ) (branch old new : Forest L G) → put_last path branch old ≡ Some new
      → (before : List ℕ) × (after : List ℕ) × (ids old ≡ before ++ after) × (ids new ≡ before ++ (ids branch ++ after))
  ids-put_last [] branch old new e =
      let is : above old branch ≡ new = cc in (
        ids old,
        [],
        sym (append-nil (ids old)),
        ap ids (sym is)
            ∙ (ids-above old branch ∙ ap (λ xs. ids old ++ xs) (sym (append-nil (ids branch)))),
      )
  ids-put_last (place ∷ path) branch none new e = cc
  ids-put_last (zero ∷ path) branch (leaf id w u) new e = cc
  ids-put_last (zero ∷ path) branch (group id w c u) new e =
      let m = mapped (λ x. group id w x u) (put_last path branch c) new e in
      let r = ids-put_last path branch c m.0 m.1 in (
        id ∷ r.0,
        r.1 ++ ids u,
        ap (λ xs. id ∷ xs) (ap (λ xs. xs ++ ids u) r.2 ∙ append_assoc r.0 r.1 (ids u)),
        ap ids (sym m.2) ∙ ap (λ xs. id ∷ xs) (ap (λ xs. xs ++ ids u) r.3
            ∙ (append_assoc r.0 (ids branch ++ r.1) (ids u) ∙ ap (λ xs. r.0 ++ xs) (append_assoc (ids branch) r.1 (ids u)))),
      )
  ids-put_last (suc place ∷ path) branch (leaf id w u) new e =
      let m = mapped (leaf id w) (put_last (place ∷ path) branch u) new e in
      let r = ids-put_last (place ∷ path) branch u m.0 m.1 in
      (id ∷ r.0, r.1, ap (λ xs. id ∷ xs) r.2, ap ids (sym m.2) ∙ ap (λ xs. id ∷ xs) r.3)
  ids-put_last (suc place ∷ path) branch (group id w c u) new e =
      let m = mapped (group id w c) (put_last (place ∷ path) branch u) new e in
      let r = ids-put_last (place ∷ path) branch u m.0 m.1 in (
        id ∷ (ids c ++ r.0),
        r.1,
        ap (λ xs. id ∷ xs) (ap (λ xs. ids c ++ xs) r.2 ∙ sym (append_assoc (ids c) r.0 r.1)),
        ap ids (sym m.2) ∙ ap (λ xs. id ∷ xs) (ap (λ xs. ids c ++ xs) r.3 ∙ sym (append_assoc (ids c) r.0 (ids branch ++ r.1))),
      )

-- one more element among the others
all_with : (P : ℕ → Type 0) (before after : List ℕ) (n : ℕ) → AllByRecursion P (before ++ after) → P n
    → AllByRecursion P (before ++ (n ∷ after))
all_with P [] after n h p = (p, h)
all_with P (x ∷ before) after n h p = (h.0, all_with P before after n h.1 p)

other : (n x : ℕ) → x < n → nat_eq x n ≡ false
other n x h = ne_eqb x n (λ e. omega (arith, h, e))

other_back : (n x : ℕ) → x < n → nat_eq n x ≡ false
other_back n x h = ne_eqb n x (λ e. omega (arith, h, e))

all_other : (n : ℕ) (xs : List ℕ) → AllByRecursion (λ x. x < n) xs → AllByRecursion (λ x. nat_eq n x ≡ false) xs
all_other n [] h = tt
all_other n (x ∷ xs) h = (other_back n x h.0, all_other n xs h.1)

distinct_with : (before after : List ℕ) (n : ℕ) → IsDistinct nat_eq (before ++ after)
    → AllByRecursion (λ x. x < n) (before ++ after) → IsDistinct nat_eq (before ++ (n ∷ after))
distinct_with [] after n d h = IsDistinct-cons nat_eq n after (all_other n after h) d
distinct_with (x ∷ before) after n d h =
    IsDistinct-cons nat_eq x (before ++ (n ∷ after))
    (all_with (λ y. nat_eq x y ≡ false) before after n (IsDistinct-head nat_eq x (before ++ after) d) (other n x h.0))
    (distinct_with before after n (IsDistinct-tail nat_eq x (before ++ after) d) h.1)

-- distinct numbers from 1 up to another one
pub record AreUpTo (n : ℕ) (numbers : List ℕ) : Type 0 where
  pub distinct : IsDistinct nat_eq numbers
  pub each : AllByRecursion (λ id. (1 ≤ id) × (id ≤ n)) numbers

pub none_up_to : (n : ℕ) → AreUpTo n []
unfolding IsDistinct
none_up_to n = record { distinct = tt; each = tt }

below_next : (n : ℕ) (xs : List ℕ) → AllByRecursion (λ id. (1 ≤ id) × (id ≤ n)) xs → AllByRecursion (λ x. x < 1 + n) xs
below_next n [] h = tt
below_next n (x ∷ xs) h = (omega (arith, h.0.1), below_next n xs h.1)

up_to_next : (n : ℕ) (xs : List ℕ) → AllByRecursion (λ id. (1 ≤ id) × (id ≤ n)) xs
    → AllByRecursion (λ id. (1 ≤ id) × (id ≤ n + 1)) xs
up_to_next n [] h = tt
up_to_next n (x ∷ xs) h = ((h.0.0, omega (arith, h.0.1)), up_to_next n xs h.1)

-- the next number among them
pub next_among : (n : ℕ) (before after : List ℕ) → AreUpTo n (before ++ after) → AreUpTo (n + 1) (before ++ ((1 + n) ∷ after))
next_among n before after h = record {
  distinct = distinct_with before after (1 + n) h.distinct (below_next n (before ++ after) h.each);
  each = all_with (λ id. (1 ≤ id) × (id ≤ n + 1)) before after (1 + n) (up_to_next n (before ++ after) h.each) (
    omega arith,
    omega arith,
  );
}
