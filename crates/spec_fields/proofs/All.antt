-- What holds of each element of a list holds of its parts.
use Rattle.std.proofs.Common.{ℕ, zero, suc, List, [], ◌∷◌, ◌++◌, take, drop, replicate, get_or}
use Rattle.std.specs.Prelude.{flat_map, map}
use Rattle.std.specs.List.{AllByRecursion}

module _ {X : Type 0} (P : X → Type 0) where
  pub all_take : (n : ℕ) (xs : List X) → AllByRecursion P xs → AllByRecursion P (take n xs)
  all_take zero [] h = tt
  all_take zero (x ∷ xs) h = tt
  all_take (suc n) [] h = tt
  all_take (suc n) (x ∷ xs) h = (h.0, all_take n xs h.1)

  pub all_drop : (n : ℕ) (xs : List X) → AllByRecursion P xs → AllByRecursion P (drop n xs)
  all_drop zero [] h = tt
  all_drop zero (x ∷ xs) h = h
  all_drop (suc n) [] h = tt
  all_drop (suc n) (x ∷ xs) h = all_drop n xs h.1

  pub all_append : (xs ys : List X) → AllByRecursion P xs → AllByRecursion P ys → AllByRecursion P (xs ++ ys)
  all_append [] ys p q = q
  all_append (x ∷ xs) ys p q = (p.0, all_append xs ys p.1 q)

  pub all_replicate : (n : ℕ) (x : X) → P x → AllByRecursion P (replicate n x)
  all_replicate zero x p = tt
  all_replicate (suc n) x p = (p, all_replicate n x p)

  pub all_at : (xs : List X) (i : ℕ) (d : X) → AllByRecursion P xs → P d → P (get_or xs i d)
  all_at [] i d h p = p
  all_at (x ∷ xs) zero d h p = h.0
  all_at (x ∷ xs) (suc i) d h p = all_at xs i d h.1 p

  pub all_flat_map : {A : Type 0} (f : A → List X) → ((a : A) → AllByRecursion P (f a)) → (ys : List A)
      → AllByRecursion P (flat_map f ys)
  all_flat_map f each [] = tt
  all_flat_map f each (a ∷ ys) = all_append (f a) (flat_map f ys) (each a) (all_flat_map f each ys)

  pub all_map : {A : Type 0} (f : A → X) → ((a : A) → P (f a)) → (ys : List A) → AllByRecursion P (map f ys)
  all_map f each [] = tt
  all_map f each (a ∷ ys) = (each a, all_map f each ys)
