-- Sums over a forest that grows.
use Rattle.std.proofs.Common.{◌≡◌, ℕ, zero, suc, ◌+◌, List, [], ◌∷◌, refl, sym, ◌∙◌, ap, arith}
use Rattle.std.specs.Prelude.{Option, Some, None, option_map}
use Rattle.spec_document.specs.Forest.{Forest, none, leaf, group, total}
use Rattle.spec_document.specs.Changes.{above, put_last}

module _ {L G : Type 0} (l : L → ℕ) (g : G → ℕ) where
  pub total-above : (a b : Forest L G) → total l g (above a b) ≡ total l g a + total l g b
  total-above none b = omega arith
  total-above (leaf id w u) b = omega (arith, total-above u b)
  total-above (group id w c u) b = omega (arith, total-above u b)

  -- an option that was mapped to something
  mapped : (f : Forest L G → Forest L G) (o : Option (Forest L G)) (new : Forest L G) → option_map f o ≡ Some new
      → (x : Forest L G) × (o ≡ Some x) × (f x ≡ new)
  mapped f None new e = cc
  mapped f (Some x) new e = (x, refl, cc)

  pub total-put_last : (path : List ℕ) (branch old new : Forest L G) → put_last path branch old ≡ Some new
      → total l g new ≡ total l g old + total l g branch
  total-put_last [] branch old new e =
      let is : above old branch ≡ new = cc in ap (total l g) (sym is) ∙ total-above old branch
  total-put_last (place ∷ path) branch none new e = cc
  total-put_last (zero ∷ path) branch (leaf id w u) new e = cc
  total-put_last (zero ∷ path) branch (group id w c u) new e =
      let m = mapped (λ x. group id w x u) (put_last path branch c) new e in
      ap (total l g) (sym m.2) ∙ omega (arith, total-put_last path branch c m.0 m.1)
  total-put_last (suc place ∷ path) branch (leaf id w u) new e =
      let m = mapped (leaf id w) (put_last (place ∷ path) branch u) new e in
      ap (total l g) (sym m.2) ∙ omega (arith, total-put_last (place ∷ path) branch u m.0 m.1)
  total-put_last (suc place ∷ path) branch (group id w c u) new e =
      let m = mapped (group id w c) (put_last (place ∷ path) branch u) new e in
      ap (total l g) (sym m.2) ∙ omega (arith, total-put_last (place ∷ path) branch u m.0 m.1)

  -- where one branch can be put, another can
  pub put_last_other : (path : List ℕ) (branch other old new : Forest L G) → put_last path branch old ≡ Some new
      → (x : Forest L G) × (put_last path other old ≡ Some x)
  put_last_other [] branch other old new e = (above old other, refl)
  put_last_other (place ∷ path) branch other none new e = cc
  put_last_other (zero ∷ path) branch other (leaf id w u) new e = cc
  put_last_other (zero ∷ path) branch other (group id w c u) new e =
      let m = mapped (λ x. group id w x u) (put_last path branch c) new e in
      let r = put_last_other path branch other c m.0 m.1 in
      (group id w r.0 u, ap (λ o. option_map (λ x. group id w x u) o) r.1)
  put_last_other (suc place ∷ path) branch other (leaf id w u) new e =
      let m = mapped (leaf id w) (put_last (place ∷ path) branch u) new e in
      let r = put_last_other (place ∷ path) branch other u m.0 m.1 in
      (leaf id w r.0, ap (λ o. option_map (leaf id w) o) r.1)
  put_last_other (suc place ∷ path) branch other (group id w c u) new e =
      let m = mapped (group id w c) (put_last (place ∷ path) branch u) new e in
      let r = put_last_other (place ∷ path) branch other u m.0 m.1 in
      (group id w c r.0, ap (λ o. option_map (group id w c) o) r.1)
