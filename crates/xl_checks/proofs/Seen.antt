-- The layers and groups of a tree in which a node is found.
use Rattle.std.proofs.Common.{◌≡◌, ℕ, Bool, true, false, cond, eqb, ◌∷◌, ◌++◌, refl, sym, ◌∙◌, ap, subst}
use Rattle.std.specs.Prelude.{Some, None}
use Rattle.spec_document.specs.Forest.{Forest, none, leaf, group, ids, Found, nothing, a_leaf, a_group, or_else, find}
use Rattle.spec_document.specs.Document as doc
use Rattle.spec_edit.specs.declared.EditRefused.TheVariants.{NoNode}
use Rattle.spec_edit.specs.Refusal.{no_node_found}
use Rattle.xl_tree.specs.Reads.{node_of}
use Rattle.xl_doc.specs.declared.node.Node.{Node}
use Rattle.xl_doc.specs.declared.node.Body.{Body}
use Rattle.xl_doc.specs.declared.node.Body.TheVariants.{Leaf, Group}
use Rattle.xl_doc.specs.Nodes.{nodes_of, layer_of, group_of, IsLeaf, IsGroup, MarksAgree}

pub ids-nodes_of : (t : Forest Node Node) → ids (nodes_of t) ≡ ids t
ids-nodes_of none = refl
ids-nodes_of (leaf i n u) = ap (λ xs. i ∷ xs) (ids-nodes_of u)
ids-nodes_of (group i n c u) = λ j. i ∷ (ids-nodes_of c j ++ ids-nodes_of u j)

-- what is found in a tree, as a layer or a group
abbrev pub Sees : Found Node Node → Found doc.Layer doc.Group → Type 0
Sees nothing found = found ≡ nothing
Sees (a_leaf n) found = IsLeaf n.body × (found ≡ a_leaf (layer_of n))
Sees (a_group n children) found = IsGroup n.body × (found ≡ a_group (group_of n) (nodes_of children))

sees_or_else : (a b : Found Node Node) (x y : Found doc.Layer doc.Group) → Sees a x → Sees b y → Sees (or_else a b) (or_else x y)
sees_or_else nothing b x y p q = let P : Found doc.Layer doc.Group → Type 0 = λ z. Sees b (or_else z y) in subst P (sym p) q
sees_or_else (a_leaf n) b x y p q = (p.0, ap (λ z. or_else z y) p.1)
sees_or_else (a_group n c) b x y p q = (p.0, ap (λ z. or_else z y) p.1)

sees_cond : (test : Bool) (a b : Found Node Node) (x y : Found doc.Layer doc.Group) → Sees a x → Sees b y
    → Sees (cond test a b) (cond test x y)
sees_cond true a b x y p q = p
sees_cond false a b x y p q = q

pub sees : (id : ℕ) (t : Forest Node Node) → MarksAgree t → Sees (find id t) (find id (nodes_of t))
sees id none m = refl
sees id (leaf i n u) m =
    sees_cond (eqb id i) (a_leaf n) (find id u) (a_leaf (layer_of n)) (find id (nodes_of u)) (m.0, refl) (sees id u m.1)
sees id (group i n c u) m =
    sees_cond (eqb id i) (a_group n c) (or_else (find id c) (find id u)) (a_group (group_of n) (nodes_of c))
    (or_else (find id (nodes_of c)) (find id (nodes_of u)))
    (m.0, refl) (sees_or_else (find id c) (find id u) (find id (nodes_of c)) (find id (nodes_of u)) (sees id c m.1.0)
    (sees id u m.1.1))

not_both : (b : Body) → IsLeaf b → IsGroup b → ⊥
not_both (Leaf sheet) l g = g
not_both Group l g = l

-- what an option of a found node says, for the leaf and the group that it may be
absent : (found : Found Node Node) (seen : Found doc.Layer doc.Group) → Sees found seen → node_of found ≡ None → seen ≡ nothing
absent nothing seen s e = s
absent (a_leaf n) seen s e = cc
absent (a_group n c) seen s e = cc

-- where no node is found, no layer and no group is
pub no_node_seen : (id : ℕ) (t : Forest Node Node) → MarksAgree t → node_of (find id t) ≡ None → find id (nodes_of t) ≡ nothing
no_node_seen id t m e = absent (find id t) (find id (nodes_of t)) (sees id t m) e

-- the node is found as a leaf, and seen as a layer
pub record IsLeafAt (id : ℕ) (n : Node) (t : Forest Node Node) : Type 0 where
  pub leaf : IsLeaf n.body
  pub found : find id t ≡ a_leaf n
  pub seen : find id (nodes_of t) ≡ a_leaf (layer_of n)

as_leaf : (found : Found Node Node) (seen : Found doc.Layer doc.Group) (n : Node) → Sees found seen → node_of found ≡ Some n
    → IsLeaf n.body → (found ≡ a_leaf n) × (seen ≡ a_leaf (layer_of n))
as_leaf nothing seen n s e is = cc
as_leaf (a_leaf x) seen n s e is = let same : x ≡ n = cc in (ap a_leaf same, s.1 ∙ ap (λ y. a_leaf (layer_of y)) same)
as_leaf (a_group x c) seen n s e is =
    let same : x ≡ n = cc in absurd (not_both x.body (let P : Node → Type 0 = λ y. IsLeaf y.body in subst P (sym same) is) s.0)

pub leaf_seen : (id : ℕ) (t : Forest Node Node) (n : Node) → MarksAgree t → node_of (find id t) ≡ Some n → IsLeaf n.body
    → IsLeafAt id n t
leaf_seen id t n m e is =
    let p = as_leaf (find id t) (find id (nodes_of t)) n (sees id t m) e is in record { leaf = is; found = p.0; seen = p.1 }

-- the node is found as a group, and seen as one
pub record IsGroupAt (id : ℕ) (n : Node) (t : Forest Node Node) : Type 0 where
  pub children : Forest Node Node
  pub found : find id t ≡ a_group n children
  pub seen : find id (nodes_of t) ≡ a_group (group_of n) (nodes_of children)

as_group : (id : ℕ) (t : Forest Node Node) (found : Found Node Node) (n : Node) → find id t ≡ found
    → Sees found (find id (nodes_of t)) → node_of found ≡ Some n → IsGroup n.body → IsGroupAt id n t
as_group id t nothing n is s e g = cc
as_group id t (a_leaf x) n is s e g =
    let same : x ≡ n = cc in absurd (not_both x.body s.0 (let P : Node → Type 0 = λ y. IsGroup y.body in subst P (sym same) g))
as_group id t (a_group x c) n is s e g =
    let same : x ≡ n = cc in
    record { children = c; found = is ∙ ap (λ y. a_group y c) same; seen = s.1 ∙ ap (λ y. a_group (group_of y) (nodes_of c)) same }

pub group_seen : (id : ℕ) (t : Forest Node Node) (n : Node) → MarksAgree t → node_of (find id t) ≡ Some n → IsGroup n.body
    → IsGroupAt id n t
group_seen id t n m e is = as_group id t (find id t) n refl (sees id t m) e is

-- a layer is seen only where a leaf is found
layer_is : (found : Found Node Node) (seen : Found doc.Layer doc.Group) (n : Node) (l : doc.Layer) → Sees found seen
    → seen ≡ a_leaf l → node_of found ≡ Some n → IsLeaf n.body
layer_is nothing seen n l s is e = cc
layer_is (a_leaf x) seen n l s is e = let same : x ≡ n = cc in let P : Node → Type 0 = λ y. IsLeaf y.body in subst P same s.0
layer_is (a_group x c) seen n l s is e = let two : a_leaf l ≡ a_group (group_of x) (nodes_of c) = sym is ∙ s.1 in cc

pub layer_seen : (id : ℕ) (t : Forest Node Node) (n : Node) (l : doc.Layer) → MarksAgree t → find id (nodes_of t) ≡ a_leaf l
    → node_of (find id t) ≡ Some n → IsLeaf n.body
layer_seen id t n l m is e = layer_is (find id t) (find id (nodes_of t)) n l (sees id t m) is e

-- where a node is found, a layer or a group is
pub node_seen : (id : ℕ) (t : Forest Node Node) (n : Node) → MarksAgree t → node_of (find id t) ≡ Some n
    → no_node_found id (find id (nodes_of t)) ≡ None
node_seen id t n m e = there (find id t) (find id (nodes_of t)) (sees id t m) e where
  there : (found : Found Node Node) (seen : Found doc.Layer doc.Group) → Sees found seen → node_of found ≡ Some n
      → no_node_found id seen ≡ None
  there nothing seen s is = cc
  there (a_leaf x) seen s is = ap (no_node_found id) s.1
  there (a_group x k) seen s is = ap (no_node_found id) s.1

-- a node that no rule misses is found
pub is_there : (id : ℕ) (t : Forest Node Node) → MarksAgree t → no_node_found id (find id (nodes_of t)) ≡ None
    → node_of (find id t) ≡ None → ⊥
is_there id t m there e = let two : Some (NoNode id) ≡ None = sym (ap (no_node_found id) (no_node_seen id t m e)) ∙ there in cc
