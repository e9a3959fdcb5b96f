-- The entries of a forest give the forest again.
use Rattle.std.proofs.Common.{◌≡◌, ℕ, zero, suc, ◌+◌, ◌<◌, ◌≤◌, Bool, true, false, cond, nat_lt, List, [], ◌∷◌, ◌++◌}
use Rattle.std.proofs.Common.{length, take, drop, refl, sym, ◌∙◌, ap, arith, length-append}
use Rattle.std.proofs.Math.Seq.{take-append_seam}
use Rattle.std.proofs.lemmas.Bool.{lt-ltb}
use Rattle.std.proofs.lemmas.Bool.Decides.{nat_tests}
use Rattle.spec_document.specs.Forest.{Forest, none, leaf, group, size}
use Rattle.xl_tree.specs.declared.entries.NodeEntry.{NodeEntry}
use Rattle.xl_tree.specs.Flat.{flat, below, forest_from, forest_of}

not_deeper : (level : ℕ) → nat_lt level level ≡ false
not_deeper level = grind (arith, nat_tests)

cond_true : (b : Bool) (x y : ℕ) → b ≡ true → cond b x y ≡ x
cond_true b x y h = ap (λ t. cond t x y) h

module _ {N : Type 0} where
  pub length-flat : (level : ℕ) (f : Forest N N) → length (flat level f) ≡ size f
  length-flat level none = refl
  length-flat level (leaf id w u) = omega (arith, length-flat level u)
  length-flat level (group id w c u) =
      omega (arith, length-append (flat (suc level) c) (flat level u), length-flat (suc level) c, length-flat level u)

  drop_front : (a x : List (NodeEntry N)) → drop (length a) (a ++ x) ≡ x
  drop_front [] x = refl
  drop_front (e ∷ a) x = drop_front a x

  -- a forest at a level has nothing deeper at its front
  below-flat_same : (level : ℕ) (f : Forest N N) → below level (flat level f) ≡ 0
  below-flat_same level none = refl
  below-flat_same level (leaf id w u) = ap (λ b. cond b (1 + below level (flat level u)) 0) (not_deeper level)
  below-flat_same level (group id w c u) =
      ap (λ b. cond b (1 + below level (flat (suc level) c ++ flat level u)) 0) (not_deeper level)

  regroup : (x y z : List (NodeEntry N)) → (x ++ y) ++ z ≡ x ++ (y ++ z)
  regroup [] y z = refl
  regroup (e ∷ x) y z = ap (λ es. e ∷ es) (regroup x y z)

  -- what is deeper is passed
  pub below-flat_deeper : (low level : ℕ) → low < level → (f : Forest N N) (rest : List (NodeEntry N))
      → below low (flat level f ++ rest) ≡ size f + below low rest
  below-flat_deeper low level h none rest = omega arith
  below-flat_deeper low level h (leaf id w u) rest =
      cond_true (nat_lt low level) _ _ (lt-ltb low level h) ∙ omega (arith, below-flat_deeper low level h u rest)
  below-flat_deeper low level h (group id w c u) rest =
      let deeper : low < suc level = omega (arith, h) in
      cond_true (nat_lt low level) _ _ (lt-ltb low level h)
      ∙ (ap (λ es. 1 + below low es) (regroup (flat (suc level) c) (flat level u) rest)
      ∙ omega (arith, below-flat_deeper low (suc level) deeper c (flat level u ++ rest), below-flat_deeper low level h u rest))

  -- the children of a group are what is deeper
  pub below-flat_group : (level : ℕ) (c u : Forest N N)
      → below level (flat (suc level) c ++ flat level u) ≡ length (flat (suc level) c)
  below-flat_group level c u =
      let deeper : level < suc level = omega arith in
      omega (arith, below-flat_deeper level (suc level) deeper c (flat level u), below-flat_same level u, length-flat (suc level) c)

  pub take-flat_group : (level : ℕ) (c u : Forest N N)
      → take (below level (flat (suc level) c ++ flat level u)) (flat (suc level) c ++ flat level u) ≡ flat (suc level) c
  take-flat_group level c u = ap (λ m. take m (flat (suc level) c ++ flat level u)) (below-flat_group level c u)
      ∙ take-append_seam (flat (suc level) c) (flat level u)

  pub drop-flat_group : (level : ℕ) (c u : Forest N N)
      → drop (below level (flat (suc level) c ++ flat level u)) (flat (suc level) c ++ flat level u) ≡ flat level u
  drop-flat_group level c u = ap (λ m. drop m (flat (suc level) c ++ flat level u)) (below-flat_group level c u)
      ∙ drop_front (flat (suc level) c) (flat level u)

  pub forest_from-flat : (n level : ℕ) (f : Forest N N) → size f ≤ n → forest_from n (flat level f) ≡ f
  forest_from-flat zero level none h = refl
  forest_from-flat (suc n) level none h = refl
  forest_from-flat zero level (leaf id w u) h = absurd (omega (arith, h))
  forest_from-flat zero level (group id w c u) h = absurd (omega (arith, h))
  forest_from-flat (suc n) level (leaf id w u) h = ap (leaf id w) (forest_from-flat n level u (omega (arith, h)))
  forest_from-flat (suc n) level (group id w c u) h =
      λ i. group id w ((ap (forest_from n) (take-flat_group level c u) ∙ forest_from-flat n (suc level) c (omega (arith, h))) i)
      ((ap (forest_from n) (drop-flat_group level c u) ∙ forest_from-flat n level u (omega (arith, h))) i)

  pub forest_of-flat : (level : ℕ) (f : Forest N N) → forest_of (flat level f) ≡ f
  forest_of-flat level f = forest_from-flat (length (flat level f)) level f (omega (arith, length-flat level f))

  -- a list of entries that is flat for some forest
  pub forest_of_is : (level : ℕ) (es : List (NodeEntry N)) (f : Forest N N) → es ≡ flat level f → forest_of es ≡ f
  forest_of_is level es f e = ap forest_of e ∙ forest_of-flat level f

  pub flat_is : (level : ℕ) (es : List (NodeEntry N)) (f : Forest N N) → es ≡ flat level f → es ≡ flat level (forest_of es)
  flat_is level es f e = e ∙ ap (flat level) (sym (forest_of_is level es f e))

  pub size-forest_of : (level : ℕ) (es : List (NodeEntry N)) → es ≡ flat level (forest_of es) → size (forest_of es) ≡ length es
  size-forest_of level es e = sym (ap length e ∙ length-flat level (forest_of es))
