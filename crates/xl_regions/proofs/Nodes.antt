-- Stacks and bottommost nodes, in a tree and in the document that it stands for.
use Rattle.std.proofs.Common.{Bor, ◌≡◌, ℕ, zero, suc, ◌≤◌, length, take, arith, Bool, true, false, cond, eqb, List, []}
use Rattle.std.proofs.Common.{◌∷◌, ◌++◌, refl, sym, ◌∙◌, ap, subst}
use Rattle.std.specs.Prelude.{Option, Some, None, is_some, IsSome, slice_get, option_map, option_and_then, unwrap_or}
use Rattle.std.proofs.lemmas.Bool.{ne_eqb}
use Rattle.std.specs.List.{AllByRecursion}
use Rattle.std.specs.Option.{option_copied}
use Rattle.spec_document.specs.Forest.{Forest, none, leaf, group, Found, nothing, a_leaf, a_group, or_else, find, ids}
use Rattle.spec_document.specs.Forest.{ancestors, first_of, children_of, stack_at}
use Rattle.spec_document.proofs.Distinct.{IsNot, nothing_from_ids}
use Rattle.spec_document.specs.Document.{Nodes, Group}
use Rattle.spec_damage.specs.Damage.{or_lower, bottom_of, first_or, stack_of, stacks_above}
use Rattle.xl_tree.specs.Places.{first_some}
use Rattle.xl_tree.specs.declared.naming.NodeId.{NodeId}
use Rattle.xl_tree.specs.Reads.{bottom_shown, node_of}
use Rattle.xl_doc.specs.declared.node.Node.{Node}
use Rattle.xl_doc.specs.Nodes.{nodes_of}
use Rattle.xl_doc.proofs.NodesOf.{stack-nodes_of}
use Rattle.xl_regions.specs.Pairs.{numbers}

pub ancestors-nodes_of : (id : ℕ) (f : Forest Node Node) → ancestors id (nodes_of f) ≡ ancestors id f
ancestors-nodes_of id none = refl
ancestors-nodes_of id (leaf i n u) = ap (λ o. cond (eqb id i) (Some []) o) (ancestors-nodes_of id u)
ancestors-nodes_of id (group i n c u) =
    λ j. cond (eqb id i) (Some []) (first_of (option_map (λ above. above ++ i ∷ []) (ancestors-nodes_of id c j))
    (ancestors-nodes_of id u j))

lower : (o : Option ℕ) (visible : Bool) (id : ℕ) → or_lower o visible id ≡ first_some o (cond visible (Some id) None)
lower (Some k) visible id = refl
lower None true id = refl
lower None false id = refl

bottom-nodes_of : (f : Forest Node Node) → bottom_of (nodes_of f) ≡ bottom_shown (λ n. n.visible) f
bottom-nodes_of none = refl
bottom-nodes_of (leaf i n u) =
    ap (λ o. or_lower o n.visible i) (bottom-nodes_of u) ∙ lower (bottom_shown (λ n. n.visible) u) n.visible i
bottom-nodes_of (group i n c u) =
    ap (λ o. or_lower o n.visible i) (bottom-nodes_of u) ∙ lower (bottom_shown (λ n. n.visible) u) n.visible i

-- of a stack, where there is one
pub bottom-stack : (stack : ℕ) (f : Forest Node Node)
    → unwrap_or (option_map bottom_of (stack_at stack (nodes_of f))) None
    ≡ option_and_then (bottom_shown (λ n. n.visible)) (stack_at stack f)
bottom-stack stack f = ap (λ o. unwrap_or (option_map bottom_of o) None) (stack-nodes_of stack f) ∙ step (stack_at stack f) where
  step : (o : Option (Forest Node Node))
      → unwrap_or (option_map bottom_of (option_map nodes_of o)) None ≡ option_and_then (bottom_shown (λ n. n.visible)) o
  step None = refl
  step (Some s) = bottom-nodes_of s

-- ---- the stacks above one

known_both : (a b : Option (List ℕ)) (i : ℕ) (x y : Found Node Node) → is_some a ≡ is_some (node_of x)
    → is_some b ≡ is_some (node_of y)
    → is_some (first_of (option_map (λ above. above ++ i ∷ []) a) b) ≡ is_some (node_of (or_else x y))
known_both None b i nothing y p q = q
known_both None b i (a_leaf n) y p q = cc
known_both None b i (a_group n c) y p q = cc
known_both (Some gs) b i nothing y p q = cc
known_both (Some gs) b i (a_leaf n) y p q = refl
known_both (Some gs) b i (a_group n c) y p q = refl

-- the groups above a node are known where there is the node
known : (id : ℕ) (f : Forest Node Node) → is_some (ancestors id f) ≡ is_some (node_of (find id f))
known id none = refl
known id (leaf i n u) = step (eqb id i) (known id u) where
  step : (b : Bool) → is_some (ancestors id u) ≡ is_some (node_of (find id u))
      → is_some (cond b (Some []) (ancestors id u)) ≡ is_some (node_of (cond b (a_leaf n) (find id u)))
  step true e = refl
  step false e = e
known id (group i n c u) =
    step (eqb id i) (known_both (ancestors id c) (ancestors id u) i (find id c) (find id u) (known id c) (known id u)) where
      step : (b : Bool) → is_some (first_of (option_map (λ above. above ++ i ∷ []) (ancestors id c)) (ancestors id u))
          ≡ is_some (node_of (or_else (find id c) (find id u)))
          → is_some (cond b (Some []) (first_of (option_map (λ above. above ++ i ∷ []) (ancestors id c)) (ancestors id u)))
          ≡ is_some (node_of (cond b (a_group n c) (or_else (find id c) (find id u))))
      step true e = refl
      step false e = e

abbrev to_image : Option (List ℕ) → List ℕ
to_image o = unwrap_or (option_map (λ above. above ++ 0 ∷ []) o) []

above-tree : (id : ℕ) (f : Forest Node Node) → eqb id 0 ≡ false → stacks_above (nodes_of f) id ≡ to_image (ancestors id f)
above-tree id f e = ap (λ b. cond b [] (to_image (ancestors id (nodes_of f)))) e ∙ ap to_image (ancestors-nodes_of id f)

pub above_image : (nodes : Nodes) (id : ℕ) → eqb id 0 ≡ true → stacks_above nodes id ≡ []
above_image nodes id e = ap (λ b. cond b [] (to_image (ancestors id nodes))) e

pub above_absent : (id : ℕ) (f : Forest Node Node) → eqb id 0 ≡ false → is_some (node_of (find id f)) ≡ false
    → stacks_above (nodes_of f) id ≡ []
above_absent id f e lacks = above-tree id f e ∙ step (ancestors id f) (known id f ∙ lacks) where
  step : (o : Option (List ℕ)) → is_some o ≡ false → to_image o ≡ []
  step None h = refl
  step (Some gs) h = cc

pub above_known : (id : ℕ) (f : Forest Node Node) (gs : List NodeId) → eqb id 0 ≡ false → is_some (node_of (find id f)) ≡ true
    → numbers gs ≡ unwrap_or (ancestors id f) [] → stacks_above (nodes_of f) id ≡ numbers gs ++ 0 ∷ []
above_known id f gs e there is = above-tree id f e ∙ step (ancestors id f) (known id f ∙ there) is where
  step : (o : Option (List ℕ)) → is_some o ≡ true → numbers gs ≡ unwrap_or o [] → to_image o ≡ numbers gs ++ 0 ∷ []
  step None h k = cc
  step (Some bs) h k = ap (λ z. z ++ 0 ∷ []) (sym k)

pub stack_of-tree : (id : ℕ) (f : Forest Node Node) (gs : List NodeId) → eqb id 0 ≡ false
    → numbers gs ≡ unwrap_or (ancestors id f) []
    → stack_of (nodes_of f) id ≡ first_or 0 (numbers gs)
stack_of-tree id f gs e is = ap (first_or 0) (above-tree id f e) ∙ (step (ancestors id f) ∙ ap (first_or 0) (sym is)) where
  step : (o : Option (List ℕ)) → first_or 0 (to_image o) ≡ first_or 0 (unwrap_or o [])
  step None = refl
  step (Some []) = refl
  step (Some (b ∷ bs)) = refl

pub some-copied : {A : Type 0} (o : Option (Bor A)) → is_some (option_copied o) ≡ is_some o
some-copied None = refl
some-copied (Some x) = refl

pub first_none : (xs : List NodeId) → None ≡ slice_get xs 0 → first_or 0 (numbers xs) ≡ 0
first_none [] e = refl
first_none (x ∷ xs) e = cc

pub first_known : (x : NodeId) (xs : List NodeId) → Some x ≡ slice_get xs 0 → first_or 0 (numbers xs) ≡ x.0
first_known x [] e = cc
first_known x (y ∷ xs) e = let same : x ≡ y = cc in ap (λ i. i.0) (sym same)

pub take_all : {A : Type 0} (n : ℕ) (xs : List A) → length xs ≤ n → take n xs ≡ xs
take_all zero [] h = refl
take_all zero (x ∷ xs) h = absurd (omega (arith, h))
take_all (suc n) [] h = refl
take_all (suc n) (x ∷ xs) h = ap (λ ys. x ∷ ys) (take_all n xs (omega (arith, h)))

pub numbers-last : (xs : List NodeId) → numbers (xs ++ record { 0 = 0 } ∷ []) ≡ numbers xs ++ 0 ∷ []
numbers-last [] = refl
numbers-last (x ∷ xs) = ap (λ ys. x.0 ∷ ys) (numbers-last xs)

-- ---- what stands at an id

is_not_0 : (xs : List ℕ) → AllByRecursion (λ id. 1 ≤ id) xs → AllByRecursion (IsNot 0) xs
is_not_0 [] h = tt
is_not_0 (x ∷ xs) h = (ne_eqb 0 x (λ e. omega (arith, e, h.0)), is_not_0 xs h.1)

pub group_not_0 : (id : ℕ) (nodes : Nodes) (g : Group) (children : Nodes) → AllByRecursion (λ i. 1 ≤ i) (ids nodes)
    → find id nodes ≡ a_group g children → id ≡ 0 → ⊥
group_not_0 id nodes g children positive is top =
    let none_there : find 0 nodes ≡ nothing = nothing_from_ids 0 nodes (is_not_0 (ids nodes) positive) in
    let both : nothing ≡ a_group g children = sym none_there ∙ (ap (λ i. find i nodes) (sym top) ∙ is) in cc

pub group_stack : (id : ℕ) (nodes : Nodes) (g : Group) (children : Nodes) → find id nodes ≡ a_group g children
    → IsSome (stack_at id nodes)
group_stack id nodes g children is = step (eqb id 0) (children_of (find id nodes)) (ap children_of is) where
  step : (b : Bool) (o : Option Nodes) → o ≡ Some children → IsSome (cond b (Some nodes) o)
  step true o e = refl
  step false o e = let P : Option Nodes → Type 0 = IsSome in subst P (sym e) refl
