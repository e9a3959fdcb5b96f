-- Changes of the node with an id, where ids are distinct.
use Rattle.std.proofs.Common.{◌≡◌, ℕ, Bool, true, false, cond, eqb, nat_eq, ◌∷◌, ◌++◌, refl, sym, ◌∙◌, ap, subst}
use Rattle.std.specs.List.{IsDistinct}
use Rattle.spec_document.specs.Forest.{Forest, none, leaf, group, ids, Found, nothing, a_leaf, a_group, find}
use Rattle.spec_document.specs.Changes.{with_leaf, with_group}
use Rattle.spec_document.specs.Holes.{Hole, plug}
use Rattle.spec_document.proofs.Standing.{Fresh, Standing, nowhere, at_leaf, at_group, standing, find-at_leaf, find-at_group}
use Rattle.spec_document.proofs.Distinct.{untouched, walks-with_leaf, walks-with_group, lone_leaf, lone_group}
use Rattle.spec_document.proofs.Distinct.{with_leaf-at_leaf, with_leaf-at_group, with_group-at_leaf, with_group-at_group}

-- two changes come to the same at what is found
abbrev pub Agree : {L G : Type 0} → (a b : L → L) (c d : G → G) → Found L G → Type 0
Agree a b c d nothing = Unit {0}
Agree a b c d (a_leaf w) = a w ≡ b w
Agree a b c d (a_group w children) = c w ≡ d w

cond_same : {A : Type 0} → (test : Bool) (x : A) → cond test x x ≡ x
cond_same true x = refl
cond_same false x = refl

module _ {L G : Type 0} where
  pub with_leaf-same : (id : ℕ) (f : Forest L G) → with_leaf id (λ w. w) f ≡ f
  with_leaf-same id none = refl
  with_leaf-same id (leaf i w u) = λ j. leaf i (cond_same (eqb id i) w j) (with_leaf-same id u j)
  with_leaf-same id (group i w c u) = λ j. group i w (with_leaf-same id c j) (with_leaf-same id u j)

  pub with_group-same : (id : ℕ) (f : Forest L G) → with_group id (λ w. w) f ≡ f
  with_group-same id none = refl
  with_group-same id (leaf i w u) = λ j. leaf i w (with_group-same id u j)
  with_group-same id (group i w c u) = λ j. group i (cond_same (eqb id i) w j) (with_group-same id c j) (with_group-same id u j)

  pub ids-with_leaf : (id : ℕ) (change : L → L) (f : Forest L G) → ids (with_leaf id change f) ≡ ids f
  ids-with_leaf id change none = refl
  ids-with_leaf id change (leaf i w u) = ap (λ xs. i ∷ xs) (ids-with_leaf id change u)
  ids-with_leaf id change (group i w c u) = λ j. i ∷ (ids-with_leaf id change c j ++ ids-with_leaf id change u j)

  pub ids-with_group : (id : ℕ) (change : G → G) (f : Forest L G) → ids (with_group id change f) ≡ ids f
  ids-with_group id change none = refl
  ids-with_group id change (leaf i w u) = ap (λ xs. i ∷ xs) (ids-with_group id change u)
  ids-with_group id change (group i w c u) = λ j. i ∷ (ids-with_group id change c j ++ ids-with_group id change u j)

  nowhere_changed : (id : ℕ) (a : L → L) (c : G → G) (f : Forest L G) → find id f ≡ nothing → with_group id c (with_leaf id a f) ≡ f
  nowhere_changed id a c f n =
      ap (with_group id c) (untouched id (with_leaf id a) (walks-with_leaf id a) f n)
      ∙ untouched id (with_group id c) (walks-with_group id c) f n

  leaf_changed : (id : ℕ) (a : L → L) (c : G → G) (h : Hole L G) (w : L) (u : Forest L G)
      → IsDistinct nat_eq (ids (plug h (leaf id w u))) → Fresh id h
      → with_group id c (with_leaf id a (plug h (leaf id w u))) ≡ plug h (leaf id (a w) u)
  leaf_changed id a c h w u d fresh =
      let l = lone_leaf id h w u d in
      ap (with_group id c) (with_leaf-at_leaf id a h w u fresh l) ∙ with_group-at_leaf id c h (a w) u fresh l

  group_changed : (id : ℕ) (a : L → L) (c : G → G) (h : Hole L G) (w : G) (k u : Forest L G)
      → IsDistinct nat_eq (ids (plug h (group id w k u))) → Fresh id h
      → with_group id c (with_leaf id a (plug h (group id w k u))) ≡ plug h (group id (c w) k u)
  group_changed id a c h w k u d fresh =
      let l = lone_group id h w k u d in
      ap (with_group id c) (with_leaf-at_group id a h w k u fresh l) ∙ with_group-at_group id c h w k u fresh l

  -- changes that come to the same at the node with the id come to the same in all
  pub same_changes : (id : ℕ) (a b : L → L) (c d : G → G) (f : Forest L G) → IsDistinct nat_eq (ids f) → Agree a b c d (find id f)
      → with_group id c (with_leaf id a f) ≡ with_group id d (with_leaf id b f)
  same_changes id a b c d f distinct agree = from (standing id f) where
    whole : (x : Forest L G) → f ≡ x → IsDistinct nat_eq (ids x)
    whole x is = let P : Forest L G → Type 0 = λ y. IsDistinct nat_eq (ids y) in subst P is distinct

    found : (x : Found L G) → find id f ≡ x → Agree a b c d x
    found x is = let P : Found L G → Type 0 = Agree a b c d in subst P is agree

    from : Standing id f → with_group id c (with_leaf id a f) ≡ with_group id d (with_leaf id b f)
    from (nowhere n) = nowhere_changed id a c f n ∙ sym (nowhere_changed id b d f n)
    from (at_leaf h w u is fresh) =
        let e : a w ≡ b w = found (a_leaf w) (ap (find id) is ∙ find-at_leaf id h w u fresh) in
        ap (λ x. with_group id c (with_leaf id a x)) is
        ∙ (leaf_changed id a c h w u (whole (plug h (leaf id w u)) is) fresh
        ∙ (ap (λ v. plug h (leaf id v u)) e
        ∙ (sym (leaf_changed id b d h w u (whole (plug h (leaf id w u)) is) fresh)
        ∙ sym (ap (λ x. with_group id d (with_leaf id b x)) is))))
    from (at_group h w k u is fresh) =
        let e : c w ≡ d w = found (a_group w k) (ap (find id) is ∙ find-at_group id h w k u fresh) in
        ap (λ x. with_group id c (with_leaf id a x)) is
        ∙ (group_changed id a c h w k u (whole (plug h (group id w k u)) is) fresh
        ∙ (ap (λ v. plug h (group id v k u)) e
        ∙ (sym (group_changed id b d h w k u (whole (plug h (group id w k u)) is) fresh)
        ∙ sym (ap (λ x. with_group id d (with_leaf id b x)) is))))

  -- at a leaf the change of groups does nothing
  pub only_leaf : (id : ℕ) (a b : L → L) (c : G → G) (f : Forest L G) (w : L) → IsDistinct nat_eq (ids f) → find id f ≡ a_leaf w
      → a w ≡ b w
      → with_group id c (with_leaf id a f) ≡ with_leaf id b f
  only_leaf id a b c f w distinct is e =
      let P : Found L G → Type 0 = Agree a b c (λ v. v) in
      same_changes id a b c (λ v. v) f distinct (subst P (sym is) e) ∙ with_group-same id (with_leaf id b f)

  -- at a group the change of leaves does nothing
  pub only_group : (id : ℕ) (a : L → L) (c d : G → G) (f : Forest L G) (w : G) (k : Forest L G) → IsDistinct nat_eq (ids f)
      → find id f ≡ a_group w k → c w ≡ d w
      → with_group id c (with_leaf id a f) ≡ with_group id d f
  only_group id a c d f w k distinct is e =
      let P : Found L G → Type 0 = Agree a (λ v. v) c d in
      same_changes id a (λ v. v) c d f distinct (subst P (sym is) e) ∙ ap (with_group id d) (with_leaf-same id f)

  -- changes of leaves alone that come to the same at the leaf with the id
  pub same_leaf : (id : ℕ) (a b : L → L) (f : Forest L G) (w : L) → IsDistinct nat_eq (ids f) → find id f ≡ a_leaf w → a w ≡ b w
      → with_leaf id a f ≡ with_leaf id b f
  same_leaf id a b f w distinct is e = sym (with_group-same id (with_leaf id a f)) ∙ only_leaf id a b (λ v. v) f w distinct is e
