-- The ids of a forest, by those of its entries.
use Rattle.std.proofs.Common.{◌≡◌, ℕ, suc, ◌+◌, ◌<◌, ◌≤◌, max, List, [], ◌∷◌, ◌++◌, length, get_or, drop, refl, sym, ◌∙◌, ap}
use Rattle.std.specs.List.{fold}
use Rattle.std.proofs.lemmas.List.{drop_more, drop_all}
use Rattle.spec_document.specs.Forest.{Forest, none, leaf, group, ids}
use Rattle.xl_tree.specs.declared.entries.NodeEntry.{NodeEntry}
use Rattle.xl_tree.specs.Flat.{flat, forest_of}
use Rattle.xl_tree.specs.Ids.{ids_of}

module _ {N : Type 0} where
  ids_of-append : (xs ys : List (NodeEntry N)) → ids_of (xs ++ ys) ≡ ids_of xs ++ ids_of ys
  ids_of-append [] ys = refl
  ids_of-append (e ∷ xs) ys = ap (λ is. e.id ∷ is) (ids_of-append xs ys)

  ids_of-flat : (level : ℕ) (f : Forest N N) → ids_of (flat level f) ≡ ids f
  ids_of-flat level none = refl
  ids_of-flat level (leaf id w u) = ap (λ is. id ∷ is) (ids_of-flat level u)
  ids_of-flat level (group id w c u) =
      ap (λ is. id ∷ is) (ids_of-append (flat (suc level) c) (flat level u)
      ∙ (λ i. ids_of-flat (suc level) c i ++ ids_of-flat level u i))

  -- the entries of a forest have its ids
  pub ids_are : (level : ℕ) (es : List (NodeEntry N)) (f : Forest N N) → es ≡ flat level (forest_of es) → forest_of es ≡ f
      → ids_of es ≡ ids f
  ids_are level es f flat_is forest_is = ap ids_of flat_is ∙ (ids_of-flat level (forest_of es) ∙ ap ids forest_is)

  pub greatest_step : (es : List (NodeEntry N)) (i most new all : ℕ) (e : NodeEntry N) → fold max most (ids_of (drop i es)) ≡ all
      → i < length es → e ≡ get_or es i e → new ≡ max most e.id → fold max new (ids_of (drop (i + 1) es)) ≡ all
  greatest_step es i most new all e so_far h at is =
      ap (λ m. fold max m (ids_of (drop (i + 1) es))) is
      ∙ (sym (ap (λ x. fold max most (ids_of x)) (drop_more es i e h ∙ ap (λ x. x ∷ drop (i + 1) es) (sym at))) ∙ so_far)

  pub greatest_end : (es : List (NodeEntry N)) (i most all : ℕ) → length es ≤ i → fold max most (ids_of (drop i es)) ≡ all → most ≡ all
  greatest_end es i most all h so_far = sym (ap (λ x. fold max most (ids_of x)) (drop_all i es h)) ∙ so_far
