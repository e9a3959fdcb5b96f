-- The levels of a forest, by the deepest of its entries.
use Rattle.std.proofs.Common.{◌≡◌, ℕ, zero, suc, ◌+◌, ◌<◌, ◌≤◌, max, false, eqb, List, [], ◌∷◌, ◌++◌, length, get_or}
use Rattle.std.proofs.Common.{drop, refl, sym, ◌∙◌, ap, arith}
use Rattle.std.proofs.lemmas.List.{drop_more, drop_all}
use Rattle.spec_document.specs.Forest.{Forest, none, leaf, group, levels}
use Rattle.xl_tree.specs.declared.entries.NodeEntry.{NodeEntry}
use Rattle.xl_tree.specs.Flat.{flat, deepest, forest_of}
use Rattle.xl_tree.specs.Kept.{AreSiblings}

module _ {N : Type 0} where
  -- one entry more, and none
  pub deepest_more : (es : List (NodeEntry N)) (i : ℕ) (e : NodeEntry N) → i < length es → e ≡ get_or es i e
      → deepest (drop i es) ≡ max e.level (deepest (drop (i + 1) es))
  deepest_more es i e h at = ap deepest (drop_more es i e h ∙ ap (λ x. x ∷ drop (i + 1) es) (sym at))

  pub deepest_end : (es : List (NodeEntry N)) (i : ℕ) → length es ≤ i → deepest (drop i es) ≡ 0
  deepest_end es i h = ap deepest (drop_all i es h)

  deepest-append : (xs ys : List (NodeEntry N)) → deepest (xs ++ ys) ≡ max (deepest xs) (deepest ys)
  deepest-append [] ys = omega arith
  deepest-append (e ∷ xs) ys = omega (arith, deepest-append xs ys)

  deepest-flat : (level : ℕ) (f : Forest N N) → max level (deepest (flat level f)) + 1 ≡ level + max 1 (levels f)
  deepest-flat level none = omega arith
  deepest-flat level (leaf id w u) = omega (arith, deepest-flat level u)
  deepest-flat level (group id w none u) = omega (arith, deepest-flat level u)
  deepest-flat level (group id w (leaf i v x) u) =
      omega (
        arith,
        deepest-flat (suc level) (leaf i v x),
        deepest-flat level u,
        deepest-append (flat (suc level) (leaf i v x)) (flat level u),
      )
  deepest-flat level (group id w (group i v d x) u) =
      omega (
        arith,
        deepest-flat (suc level) (group i v d x),
        deepest-flat level u,
        deepest-append (flat (suc level) (group i v d x)) (flat level u),
      )

  deepest_some : (level : ℕ) (f : Forest N N) → 0 < length (flat level f) → deepest (flat level f) + 1 ≡ level + levels f
  deepest_some level none h = absurd (omega (arith, h))
  deepest_some level (leaf id w u) h = omega (arith, deepest-flat level (leaf id w u))
  deepest_some level (group id w c u) h = omega (arith, deepest-flat level (group id w c u))

  -- the levels of siblings
  pub levels_from_deepest : (level : ℕ) (es : List (NodeEntry N)) → AreSiblings level es → 0 < length es
      → deepest es + 1 ≡ level + levels (forest_of es)
  levels_from_deepest level es s h =
      ap (λ x. deepest x + 1) s.flat_is ∙ deepest_some level (forest_of es) (omega (arith, h, ap length s.flat_is))

  pub no_levels : (level : ℕ) (es : List (NodeEntry N)) → length es ≡ 0 → levels (forest_of es) ≡ 0
  no_levels level [] h = refl
  no_levels level (e ∷ es) h = absurd (omega (arith, h))

  pub deepest_step : (es : List (NodeEntry N)) (i level new : ℕ) (e : NodeEntry N) → max level (deepest (drop i es)) ≡ deepest es
      → i < length es → e ≡ get_or es i e → new ≡ max level e.level → max new (deepest (drop (i + 1) es)) ≡ deepest es
  deepest_step es i level new e so_far h at is = omega (arith, so_far, is, deepest_more es i e h at)

pub some_there : (n : ℕ) → eqb n 0 ≡ false → 0 < n
some_there zero e = cc
some_there (suc n) e = omega arith
