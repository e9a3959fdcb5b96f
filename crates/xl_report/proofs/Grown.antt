-- Groups of leaves that are counted, put under a forest one after another.
use Rattle.std.proofs.Common.{◌≡◌, ℕ, zero, suc, ◌+◌, ◌<◌, ◌≤◌, List, [], ◌∷◌, ◌++◌, length, refl, sym, subst, ap, ◌∙◌, arith}
use Rattle.std.specs.Prelude.{Some, option_map}
use Rattle.std.specs.List.{AllByRecursion}
use Rattle.spec_document.specs.Forest.{Forest, none, leaf, group, count, find, ids, nothing, size}
use Rattle.spec_document.specs.Changes.{above, put_last}
use Rattle.spec_document.proofs.Changed.{size-above}
use Rattle.spec_document.proofs.Distinct.{IsNot, ids-above, nothing_from_ids}
use Rattle.spec_document.proofs.Runs.{all-join}
use Rattle.spec_generated.specs.Generated.{leaves_from}

-- what is put last in the group at the end
pub put_in_last : {L G : Type 0} (place first : ℕ) (g : G) (old cs b : Forest L G) → count old ≡ place
    → put_last (place ∷ []) b (above old (group first g cs none)) ≡ Some (above old (group first g (above cs b) none))
put_in_last zero first g none cs b e = refl
put_in_last (suc place) first g none cs b e = absurd (omega (arith, e))
put_in_last zero first g (leaf i w u) cs b e = absurd (omega (arith, e))
put_in_last (suc place) first g (leaf i w u) cs b e =
    ap (option_map (leaf i w)) (put_in_last place first g u cs b (omega (arith, e)))
put_in_last zero first g (group i w c u) cs b e = absurd (omega (arith, e))
put_in_last (suc place) first g (group i w c u) cs b e =
    ap (option_map (group i w c)) (put_in_last place first g u cs b (omega (arith, e)))

size-leaves : {L : Type 0} (G : Type 0) (first : ℕ) (ls : List L) → size (leaves_from {G = G} first ls) ≡ length ls
size-leaves G first [] = refl
size-leaves G first (x ∷ xs) = omega (arith, size-leaves G (suc first) xs)

low_leaves : {L : Type 0} (G : Type 0) (first n : ℕ) (ls : List L) → first + length ls ≤ n
    → AllByRecursion (λ i. i < n) (ids (leaves_from {G = G} first ls))
low_leaves G first n [] h = tt
low_leaves G first n (x ∷ xs) h = (omega (arith, h), low_leaves G (suc first) n xs (omega (arith, h)))

module _ {L G : Type 0} where
  pub leaves_last : (first id : ℕ) (ls : List L) (l : L) → id ≡ first + length ls
      → above (leaves_from {G = G} first ls) (leaf id l none) ≡ leaves_from first (ls ++ l ∷ [])
  leaves_last first id [] l e = let is : id ≡ first = omega (arith, e) in ap (λ i. leaf i l none) is
  leaves_last first id (x ∷ xs) l e = ap (leaf first x) (leaves_last (suc first) id xs l (omega (arith, e)))

  -- a group of leaves under a forest
  abbrev pub grown : Forest L G → (first : ℕ) → G → List L → Forest L G
  grown old first g ls = above old (group first g (leaves_from (1 + first) ls) none)

  pub size-grown : (old : Forest L G) (first : ℕ) (g : G) (ls : List L) → size (grown old first g ls) ≡ size old + 1 + length ls
  size-grown old first g ls =
      omega (arith, size-above old (group first g (leaves_from (1 + first) ls) none), size-leaves G (1 + first) ls)

lower : (n m : ℕ) (xs : List ℕ) → n ≤ m → AllByRecursion (λ i. i < n) xs → AllByRecursion (λ i. i < m) xs
lower n m [] h all = tt
lower n m (x ∷ xs) h all = (omega (arith, h, all.0), lower n m xs h all.1)

not_there : (n : ℕ) (xs : List ℕ) → AllByRecursion (λ i. i < n) xs → AllByRecursion (IsNot n) xs
not_there n [] all = tt
not_there n (x ∷ xs) all = (grind (arith, all.0), not_there n xs all.1)

module _ {L G : Type 0} where
  pub low_grown : (old : Forest L G) (first n : ℕ) (g : G) (ls : List L) → AllByRecursion (λ i. i < first) (ids old)
      → 1 + first + length ls ≤ n
      → AllByRecursion (λ i. i < n) (ids (grown old first g ls))
  low_grown old first n g ls low h =
      let leaves : Forest L G = leaves_from (1 + first) ls in
      let P : ℕ → Type 0 = λ i. i < n in
      let below : AllByRecursion P (ids leaves) = low_leaves G (1 + first) n ls h in
      let inside : AllByRecursion P (ids leaves ++ []) = all-join P (ids leaves) [] below tt in
      let both : AllByRecursion P (ids old ++ first ∷ (ids leaves ++ [])) =
      all-join P (ids old) (first ∷ (ids leaves ++ [])) (lower first n (ids old) (omega (arith, h)) low) (
        omega (arith, h),
        inside,
      ) in
      subst (AllByRecursion P) (sym (ids-above old (group first g leaves none))) both

  -- the next id is a new one
  pub next_nowhere : (old : Forest L G) (first n : ℕ) (g : G) (ls : List L) → AllByRecursion (λ i. i < first) (ids old)
      → n ≡ 1 + first + length ls
      → find n (grown old first g ls) ≡ nothing
  next_nowhere old first n g ls low is =
      nothing_from_ids n (grown old first g ls)
      (not_there n (ids (grown old first g ls)) (low_grown old first n g ls low (omega (arith, is))))

  pub first_nowhere : (old : Forest L G) (first : ℕ) → AllByRecursion (λ i. i < first) (ids old) → find first old ≡ nothing
  first_nowhere old first low = nothing_from_ids first old (not_there first (ids old) low)

  -- a leaf more
  pub leaf_more : (place first n : ℕ) (g : G) (old tree new : Forest L G) (ls : List L) (l : L) → count old ≡ place
      → n ≡ 1 + first + length ls
      → tree ≡ grown old first g ls → put_last (place ∷ []) (leaf n l none) tree ≡ Some new → new ≡ grown old first g (ls ++ l ∷ [])
  leaf_more place first n g old tree new ls l at is tree_is put =
      let made : Some new ≡ Some (above old (group first g (above (leaves_from (1 + first) ls) (leaf n l none)) none)) =
      sym put ∙ (ap (put_last (place ∷ []) (leaf n l none)) tree_is
      ∙ put_in_last place first g old (leaves_from (1 + first) ls) (leaf n l none) at) in
      let new_is : new ≡ above old (group first g (above (leaves_from (1 + first) ls) (leaf n l none)) none) = cc in
      new_is ∙ ap (λ (c : Forest L G). above old (group first g c none)) (leaves_last (1 + first) n ls l (omega (arith, is)))
