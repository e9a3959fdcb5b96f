-- Lists with a run in them.
use Rattle.std.proofs.Common.{◌≡◌, ℕ, nat_eq, List, [], ◌∷◌, ◌++◌, sym, ◌∙◌, subst, ap, append_assoc, arith}
use Rattle.std.proofs.lemmas.List.Sorted.{IsPermutation-sym, IsPermutation-trans, IsPermutation-append_left}
use Rattle.std.proofs.lemmas.List.Sorted.{IsPermutation-append_comm}
use Rattle.std.proofs.lemmas.Map.Keys.{IsDistinct-IsPermutation}
use Rattle.std.specs.List.{AllByRecursion, IsDistinct}
use Rattle.std.specs.List.Sorted.{IsPermutation}
use Rattle.spec_document.specs.Runs.{HasRun}
use Rattle.spec_document.proofs.Distinct.{all-left, all-right, distinct-right}

nat_eq-flips : (x y : ℕ) → nat_eq x y ≡ nat_eq y x
nat_eq-flips x y = grind arith

pub all-join : (P : ℕ → Type 0) (xs ys : List ℕ) → AllByRecursion P xs → AllByRecursion P ys → AllByRecursion P (xs ++ ys)
all-join P [] ys h k = k
all-join P (x ∷ xs) ys h k = (h.0, all-join P xs ys h.1 k)

module _ (run rest whole : List ℕ) (r : HasRun run rest whole) where
  -- the run and the rest are the whole in another order
  pub run-permutation : IsPermutation whole (run ++ rest)
  run-permutation =
      let front : IsPermutation ((r.before ++ run) ++ r.after) ((run ++ r.before) ++ r.after) =
      IsPermutation-append_left r.after (r.before ++ run) (run ++ r.before) (IsPermutation-append_comm r.before run) in
      let left : (r.before ++ run) ++ r.after ≡ whole = append_assoc r.before run r.after ∙ sym r.whole_is in
      let right : (run ++ r.before) ++ r.after ≡ run ++ rest = append_assoc run r.before r.after
      ∙ ap (λ xs. run ++ xs) (sym r.rest_is) in
      let P : List ℕ → Type 0 = λ xs. IsPermutation xs (run ++ rest) in
      let Q : List ℕ → Type 0 = λ xs. IsPermutation ((r.before ++ run) ++ r.after) xs in
      subst P left (subst Q right front)

  pub run-distinct : IsDistinct nat_eq (run ++ rest) → IsDistinct nat_eq whole
  run-distinct d =
      IsDistinct-IsPermutation nat_eq nat_eq-flips (run ++ rest) whole (IsPermutation-sym whole (run ++ rest) run-permutation) d

  pub parts-distinct : IsDistinct nat_eq whole → IsDistinct nat_eq (run ++ rest)
  parts-distinct d = IsDistinct-IsPermutation nat_eq nat_eq-flips whole (run ++ rest) run-permutation d

  pub run-all : (P : ℕ → Type 0) → AllByRecursion P run → AllByRecursion P rest → AllByRecursion P whole
  run-all P a b =
      let Q : List ℕ → Type 0 = λ xs. AllByRecursion P xs in
      let parts : AllByRecursion P (r.before ++ r.after) = subst Q r.rest_is b in
      subst Q (sym r.whole_is)
      (all-join P r.before (run ++ r.after) (all-left P r.before r.after parts)
      (all-join P run r.after a (all-right P r.before r.after parts)))

  pub rest-all : (P : ℕ → Type 0) → AllByRecursion P whole → AllByRecursion P rest
  rest-all P h =
      let Q : List ℕ → Type 0 = λ xs. AllByRecursion P xs in
      let parts : AllByRecursion P (r.before ++ (run ++ r.after)) = subst Q r.whole_is h in
      subst Q (sym r.rest_is)
      (all-join P r.before r.after (all-left P r.before (run ++ r.after) parts)
      (all-right P run r.after (all-right P r.before (run ++ r.after) parts)))

  pub all-run : (P : ℕ → Type 0) → AllByRecursion P whole → AllByRecursion P run
  all-run P h =
      let Q : List ℕ → Type 0 = λ xs. AllByRecursion P xs in
      let parts : AllByRecursion P (r.before ++ (run ++ r.after)) = subst Q r.whole_is h in
      all-left P run r.after (all-right P r.before (run ++ r.after) parts)

  pub rest-distinct : IsDistinct nat_eq whole → IsDistinct nat_eq rest
  rest-distinct d = distinct-right run rest (parts-distinct d)

-- a run that is taken out at one place and put in at another leaves a list in another order
pub moved-permutation : (run rest old new : List ℕ) → HasRun run rest old → HasRun run rest new → IsPermutation old new
moved-permutation run rest old new a b =
    IsPermutation-trans old (run ++ rest) new (run-permutation run rest old a)
    (IsPermutation-sym new (run ++ rest) (run-permutation run rest new b))
