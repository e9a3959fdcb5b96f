-- Changes of all leaves of a forest at once, each by its id.
use Rattle.std.proofs.Common.{◌≡◌, ℕ, cond, eqb, refl}
use Rattle.spec_document.specs.Forest.{Forest, none, leaf, group}
use Rattle.spec_document.specs.Changes.{with_leaf}

module _ {L G : Type 0} where
  -- each leaf is changed, by its id
  abbrev pub all_leaves : (ℕ → L → L) → Forest L G → Forest L G
  all_leaves change none = none
  all_leaves change (leaf i what under) = leaf i (change i what) (all_leaves change under)
  all_leaves change (group i what children under) = group i what (all_leaves change children) (all_leaves change under)

  pub all_leaves-alike : (f g : ℕ → L → L) → ((i : ℕ) (l : L) → f i l ≡ g i l) → (n : Forest L G) → all_leaves f n ≡ all_leaves g n
  all_leaves-alike f g alike none = refl
  all_leaves-alike f g alike (leaf i w u) = λ k. leaf i (alike i w k) (all_leaves-alike f g alike u k)
  all_leaves-alike f g alike (group i w c u) = λ k. group i w (all_leaves-alike f g alike c k) (all_leaves-alike f g alike u k)

  pub all_leaves-none : (n : Forest L G) → all_leaves (λ i l. l) n ≡ n
  all_leaves-none none = refl
  all_leaves-none (leaf i w u) = λ k. leaf i w (all_leaves-none u k)
  all_leaves-none (group i w c u) = λ k. group i w (all_leaves-none c k) (all_leaves-none u k)

  -- a change of the leaves with an id, behind a change of all
  pub with_leaf-all_leaves : (id : ℕ) (change : L → L) (f : ℕ → L → L) (n : Forest L G)
      → with_leaf id change (all_leaves f n) ≡ all_leaves (λ i l. cond (eqb id i) (change (f i l)) (f i l)) n
  with_leaf-all_leaves id change f none = refl
  with_leaf-all_leaves id change f (leaf i w u) =
      λ k. leaf i (cond (eqb id i) (change (f i w)) (f i w)) (with_leaf-all_leaves id change f u k)
  with_leaf-all_leaves id change f (group i w c u) =
      λ k. group i w (with_leaf-all_leaves id change f c k) (with_leaf-all_leaves id change f u k)
