-- Where the node with an id stands.
use Rattle.std.proofs.Common.{◌≡◌, ℕ, Bool, true, false, cond, eqb, List, [], ◌∷◌, ◌++◌, refl, sym, ◌∙◌, ap, arith}
use Rattle.std.proofs.Common.{eq-eqb, eqb-true}
use Rattle.spec_document.specs.Forest.{Forest, none, leaf, group, Found, nothing, a_leaf, a_group, or_else, find, first_of, ancestors}
use Rattle.std.specs.Prelude.{Some, None, option_map}
use Rattle.spec_document.specs.Holes.{Hole, here, under_leaf, under_group, in_group, plug}

-- no node before the hole has the id
abbrev pub Fresh : {L G : Type 0} → ℕ → Hole L G → Type 0
Fresh id here = Unit {0}
Fresh id (under_leaf i w h) = (eqb id i ≡ false) × Fresh id h
Fresh id (under_group i w c h) = (eqb id i ≡ false) × (find id c ≡ nothing) × Fresh id h
Fresh id (in_group i w h u) = (eqb id i ≡ false) × Fresh id h

-- there is no such node, or the first is a leaf, or a group
pub data Standing {L G : Type 0} (id : ℕ) (f : Forest L G) : Type 0 where
  nowhere : find id f ≡ nothing → Standing id f
  at_leaf : (h : Hole L G) (w : L) (u : Forest L G) → f ≡ plug h (leaf id w u) → Fresh id h → Standing id f
  at_group : (h : Hole L G) (w : G) (c u : Forest L G) → f ≡ plug h (group id w c u) → Fresh id h → Standing id f

module _ {L G : Type 0} where
  here_leaf : (id i : ℕ) (w : L) (u : Forest L G) → Standing id u → (b : Bool) → eqb id i ≡ b → Standing id (leaf i w u)
  here_leaf id i w u s true e = let same : i ≡ id = sym (eqb-true id i e) in at_leaf here w u (ap (λ k. leaf k w u) same) tt
  here_leaf id i w u (nowhere n) false e = nowhere (ap (λ b. cond b (a_leaf w) (find id u)) e ∙ n)
  here_leaf id i w u (at_leaf h v x is fresh) false e = at_leaf (under_leaf i w h) v x (ap (leaf i w) is) (e, fresh)
  here_leaf id i w u (at_group h v c x is fresh) false e = at_group (under_leaf i w h) v c x (ap (leaf i w) is) (e, fresh)

  under_it : (id i : ℕ) (w : G) (c u : Forest L G) → eqb id i ≡ false → find id c ≡ nothing → Standing id u
      → Standing id (group i w c u)
  under_it id i w c u e n (nowhere m) =
      nowhere (ap (λ b. cond b (a_group w c) (or_else (find id c) (find id u))) e ∙ (ap (λ x. or_else x (find id u)) n ∙ m))
  under_it id i w c u e n (at_leaf h v x is fresh) = at_leaf (under_group i w c h) v x (ap (group i w c) is) (e, n, fresh)
  under_it id i w c u e n (at_group h v d x is fresh) = at_group (under_group i w c h) v d x (ap (group i w c) is) (e, n, fresh)

  here_group : (id i : ℕ) (w : G) (c u : Forest L G) → Standing id c → Standing id u → (b : Bool) → eqb id i ≡ b
      → Standing id (group i w c u)
  here_group id i w c u s t true e =
      let same : i ≡ id = sym (eqb-true id i e) in at_group here w c u (ap (λ k. group k w c u) same) tt
  here_group id i w c u (nowhere n) t false e = under_it id i w c u e n t
  here_group id i w c u (at_leaf h v x is fresh) t false e = at_leaf (in_group i w h u) v x (ap (λ y. group i w y u) is) (e, fresh)
  here_group id i w c u (at_group h v d x is fresh) t false e =
      at_group (in_group i w h u) v d x (ap (λ y. group i w y u) is) (e, fresh)

  pub standing : (id : ℕ) (f : Forest L G) → Standing id f
  standing id none = nowhere refl
  standing id (leaf i w u) = here_leaf id i w u (standing id u) (eqb id i) refl
  standing id (group i w c u) = here_group id i w c u (standing id c) (standing id u) (eqb id i) refl

  -- the first node with the id is what is found
  pub find-at_leaf : (id : ℕ) (h : Hole L G) (w : L) (u : Forest L G) → Fresh id h → find id (plug h (leaf id w u)) ≡ a_leaf w
  find-at_leaf id here w u fresh = ap (λ b. cond b (a_leaf w) (find id u)) (eq-eqb id id refl)
  find-at_leaf id (under_leaf i v h) w u fresh =
      ap (λ b. cond b (a_leaf v) (find id (plug h (leaf id w u)))) fresh.0 ∙ find-at_leaf id h w u fresh.1
  find-at_leaf id (under_group i v d h) w u fresh =
      ap (λ b. cond b (a_group v d) (or_else (find id d) (find id (plug h (leaf id w u))))) fresh.0
      ∙ (ap (λ x. or_else x (find id (plug h (leaf id w u)))) fresh.1 ∙ find-at_leaf id h w u fresh.2)
  find-at_leaf id (in_group i v h x) w u fresh =
      ap (λ b. cond b (a_group v (plug h (leaf id w u))) (or_else (find id (plug h (leaf id w u))) (find id x))) fresh.0
      ∙ ap (λ y. or_else y (find id x)) (find-at_leaf id h w u fresh.1)

  pub find-at_group : (id : ℕ) (h : Hole L G) (w : G) (c u : Forest L G) → Fresh id h
      → find id (plug h (group id w c u)) ≡ a_group w c
  find-at_group id here w c u fresh = ap (λ b. cond b (a_group w c) (or_else (find id c) (find id u))) (eq-eqb id id refl)
  find-at_group id (under_leaf i v h) w c u fresh =
      ap (λ b. cond b (a_leaf v) (find id (plug h (group id w c u)))) fresh.0 ∙ find-at_group id h w c u fresh.1
  find-at_group id (under_group i v d h) w c u fresh =
      ap (λ b. cond b (a_group v d) (or_else (find id d) (find id (plug h (group id w c u))))) fresh.0
      ∙ (ap (λ x. or_else x (find id (plug h (group id w c u)))) fresh.1 ∙ find-at_group id h w c u fresh.2)
  find-at_group id (in_group i v h x) w c u fresh =
      ap (λ b. cond b (a_group v (plug h (group id w c u))) (or_else (find id (plug h (group id w c u))) (find id x))) fresh.0
      ∙ ap (λ y. or_else y (find id x)) (find-at_group id h w c u fresh.1)

-- the ids of the groups round the hole, innermost first
abbrev pub groups : {L G : Type 0} → Hole L G → List ℕ
groups here = []
groups (under_leaf i w h) = groups h
groups (under_group i w c h) = groups h
groups (in_group i w h u) = groups h ++ i ∷ []

module _ {L G : Type 0} where
  -- where nothing is found at a leaf or a group, it has another id, and nothing is found below
  pub lacks_leaf : (w : L) (found : Found L G) (b : Bool) → cond b (a_leaf w) found ≡ nothing → (b ≡ false) × (found ≡ nothing)
  lacks_leaf w found true n = cc
  lacks_leaf w found false n = (refl, n)

  pub lacks_group : (w : G) (c : Forest L G) (x y : Found L G) (b : Bool) → cond b (a_group w c) (or_else x y) ≡ nothing
      → (b ≡ false) × (x ≡ nothing) × (y ≡ nothing)
  lacks_group w c x y true n = cc
  lacks_group w c nothing y false n = (refl, refl, n)
  lacks_group w c (a_leaf v) y false n = cc
  lacks_group w c (a_group v d) y false n = cc

  pub ancestors-nowhere : (id : ℕ) (f : Forest L G) → find id f ≡ nothing → ancestors id f ≡ None
  ancestors-nowhere id none n = refl
  ancestors-nowhere id (leaf i w u) n =
      let l = lacks_leaf w (find id u) (eqb id i) n in
      ap (λ b. cond b (Some []) (ancestors id u)) l.0 ∙ ancestors-nowhere id u l.1
  ancestors-nowhere id (group i w c u) n =
      let l = lacks_group w c (find id c) (find id u) (eqb id i) n in
      ap (λ b. cond b (Some []) (first_of (option_map (λ above. above ++ i ∷ []) (ancestors id c)) (ancestors id u))) l.0
      ∙ (ap (λ o. first_of (option_map (λ above. above ++ i ∷ []) o) (ancestors id u)) (ancestors-nowhere id c l.1)
      ∙ ancestors-nowhere id u l.2)

  -- the groups above the first node with an id, whose forest f begins with that node
  pub ancestors-plug : (id : ℕ) (h : Hole L G) (f : Forest L G) → Fresh id h → ancestors id f ≡ Some []
      → ancestors id (plug h f) ≡ Some (groups h)
  ancestors-plug id here f fresh top = top
  ancestors-plug id (under_leaf i w h) f fresh top =
      ap (λ b. cond b (Some []) (ancestors id (plug h f))) fresh.0 ∙ ancestors-plug id h f fresh.1 top
  ancestors-plug id (under_group i w c h) f fresh top =
      ap (λ b. cond b (Some []) (first_of (option_map (λ above. above ++ i ∷ []) (ancestors id c)) (ancestors id (plug h f))))
      fresh.0
      ∙ (ap (λ o. first_of (option_map (λ above. above ++ i ∷ []) o) (ancestors id (plug h f))) (ancestors-nowhere id c fresh.1)
      ∙ ancestors-plug id h f fresh.2 top)
  ancestors-plug id (in_group i w h u) f fresh top =
      ap (λ b. cond b (Some []) (first_of (option_map (λ above. above ++ i ∷ []) (ancestors id (plug h f))) (ancestors id u)))
      fresh.0
      ∙ ap (λ o. first_of (option_map (λ above. above ++ i ∷ []) o) (ancestors id u)) (ancestors-plug id h f fresh.1 top)

  pub ancestors-of_leaf : (id : ℕ) (w : L) (u : Forest L G) → ancestors id (leaf id w u) ≡ Some []
  ancestors-of_leaf id w u = ap (λ b. cond b (Some []) (ancestors id u)) (eq-eqb id id refl)

  pub ancestors-of_group : (id : ℕ) (w : G) (c u : Forest L G) → ancestors id (group id w c u) ≡ Some []
  ancestors-of_group id w c u =
      ap (λ b. cond b (Some []) (first_of (option_map (λ above. above ++ id ∷ []) (ancestors id c)) (ancestors id u)))
      (eq-eqb id id refl)
