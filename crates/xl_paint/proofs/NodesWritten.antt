-- The layers and groups of a tree in which a node is written.
use Rattle.std.proofs.Common.{◌≡◌, ℕ, Bool, true, false, cond, eqb, nat_eq, List, refl, sym, ◌∙◌, ap, subst}
use Rattle.std.specs.Prelude.{Some}
use Rattle.std.specs.List.{IsDistinct}
use Rattle.spec_document.specs.Forest.{Forest, none, leaf, group, ids, Found, nothing, a_leaf, a_group, find}
use Rattle.spec_document.specs.Changes.{with_leaf, with_group}
use Rattle.spec_document.specs.Document as doc
use Rattle.xl_tree.specs.Reads.{node_of}
use Rattle.xl_tree.specs.Writes.{with_node}
use Rattle.xl_doc.specs.declared.node.Node.{Node}
use Rattle.xl_doc.specs.declared.node.Body.{Body}
use Rattle.xl_doc.specs.declared.node.Body.TheVariants.{Leaf, Group}
use Rattle.xl_doc.specs.Nodes.{nodes_of, layer_of, group_of, IsLeaf, IsGroup, MarksAgree}
use Rattle.xl_paint.proofs.OneNode.{Agree, same_changes, only_leaf, only_group, with_leaf-same, with_group-same}
use Rattle.xl_checks.proofs.Seen.{ids-nodes_of, Sees, sees, IsLeafAt, leaf_seen, IsGroupAt, group_seen}

either : {A B : Type 0} → (f : A → B) (test : Bool) (x y : A) → f (cond test x y) ≡ cond test (f x) (f y)
either f true x y = refl
either f false x y = refl

pub nodes-with_leaf : (id : ℕ) (m : Node) (t : Forest Node Node)
    → nodes_of (with_leaf id (λ old. m) t) ≡ with_leaf id (λ old. layer_of m) (nodes_of t)
nodes-with_leaf id m none = refl
nodes-with_leaf id m (leaf i n u) = λ j. leaf i (either layer_of (eqb id i) m n j) (nodes-with_leaf id m u j)
nodes-with_leaf id m (group i n c u) = λ j. group i (group_of n) (nodes-with_leaf id m c j) (nodes-with_leaf id m u j)

pub nodes-with_group : (id : ℕ) (m : Node) (t : Forest Node Node)
    → nodes_of (with_group id (λ old. m) t) ≡ with_group id (λ old. group_of m) (nodes_of t)
nodes-with_group id m none = refl
nodes-with_group id m (leaf i n u) = λ j. leaf i (layer_of n) (nodes-with_group id m u j)
nodes-with_group id m (group i n c u) =
    λ j. group i (either group_of (eqb id i) m n j) (nodes-with_group id m c j) (nodes-with_group id m u j)

-- a node that is written is written as a layer and as a group
pub nodes-with_node : (id : ℕ) (m : Node) (t : Forest Node Node)
    → nodes_of (with_node id m t) ≡ with_group id (λ old. group_of m) (with_leaf id (λ old. layer_of m) (nodes_of t))
nodes-with_node id m t =
    nodes-with_group id m (with_leaf id (λ old. m) t) ∙ ap (with_group id (λ old. group_of m)) (nodes-with_leaf id m t)

body_cond : (P : Body → Type 0) (test : Bool) (m n : Node) → P m.body → P n.body → P (cond test m n).body
body_cond P true m n p q = p
body_cond P false m n p q = q

marks-with_leaf : (id : ℕ) (m : Node) (t : Forest Node Node) → IsLeaf m.body → MarksAgree t → MarksAgree (with_leaf id (λ old. m) t)
marks-with_leaf id m none is h = tt
marks-with_leaf id m (leaf i n u) is h = (body_cond IsLeaf (eqb id i) m n is h.0, marks-with_leaf id m u is h.1)
marks-with_leaf id m (group i n c u) is h = (h.0, (marks-with_leaf id m c is h.1.0, marks-with_leaf id m u is h.1.1))

marks-with_group : (id : ℕ) (m : Node) (t : Forest Node Node) → IsGroup m.body → MarksAgree t
    → MarksAgree (with_group id (λ old. m) t)
marks-with_group id m none is h = tt
marks-with_group id m (leaf i n u) is h = (h.0, marks-with_group id m u is h.1)
marks-with_group id m (group i n c u) is h =
    (body_cond IsGroup (eqb id i) m n is h.0, (marks-with_group id m c is h.1.0, marks-with_group id m u is h.1.1))

-- a node's own content put in its place changes nothing
pub with_node-same : (id : ℕ) (n : Node) (t : Forest Node Node) → IsDistinct nat_eq (ids t) → node_of (find id t) ≡ Some n
    → with_node id n t ≡ t
with_node-same id n t d e = same_changes id (λ old. n) (λ old. old) (λ old. n) (λ old. old) t d (agree (find id t) e)
    ∙ (ap (with_group id (λ old. old)) (with_leaf-same id t) ∙ with_group-same id t) where
      agree : (found : Found Node Node) → node_of found ≡ Some n → Agree (λ old. n) (λ old. old) (λ old. n) (λ old. old) found
      agree nothing e = tt
      agree (a_leaf x) e = cc
      agree (a_group x c) e = cc

-- a layer that is written in the place of a layer
pub layer_written : (id : ℕ) (n m : Node) (t : Forest Node Node) (change : doc.Layer → doc.Layer) → IsDistinct nat_eq (ids t)
    → IsLeafAt id n t → layer_of m ≡ change (layer_of n)
    → nodes_of (with_node id m t) ≡ with_leaf id change (nodes_of t)
layer_written id n m t change d at e =
    nodes-with_node id m t
    ∙ only_leaf id (λ old. layer_of m) change (λ old. group_of m) (nodes_of t) (layer_of n)
    (let P : List ℕ → Type 0 = IsDistinct nat_eq in subst P (sym (ids-nodes_of t)) d) at.seen e

pub marks-with_node-leaf : (id : ℕ) (n m : Node) (t : Forest Node Node) → IsDistinct nat_eq (ids t) → MarksAgree t → IsLeafAt id n t
    → IsLeaf m.body → MarksAgree (with_node id m t)
marks-with_node-leaf id n m t d marks at is =
    subst MarksAgree (sym (only_leaf id (λ old. m) (λ old. m) (λ old. m) t n d at.found refl)) (marks-with_leaf id m t is marks)

pub marks-with_node-group : (id : ℕ) (n m : Node) (t : Forest Node Node) → IsDistinct nat_eq (ids t) → MarksAgree t
    → IsGroupAt id n t → IsGroup m.body → MarksAgree (with_node id m t)
marks-with_node-group id n m t d marks at is =
    subst MarksAgree (sym (only_group id (λ old. m) (λ old. m) (λ old. m) t n at.children d at.found refl))
    (marks-with_group id m t is marks)

-- a node of another content in the place of a node, where the contents are a change of layers and a change of groups
pub node_written : (id : ℕ) (n m : Node) (t : Forest Node Node) (a : doc.Layer → doc.Layer) (c : doc.Group → doc.Group)
    → IsDistinct nat_eq (ids t) → MarksAgree t
    → node_of (find id t) ≡ Some n → layer_of m ≡ a (layer_of n) → group_of m ≡ c (group_of n)
    → nodes_of (with_node id m t) ≡ with_group id c (with_leaf id a (nodes_of t))
node_written id n m t a c d marks e as_layer as_group =
    nodes-with_node id m t
    ∙ same_changes id (λ old. layer_of m) a (λ old. group_of m) c (nodes_of t)
    (let P : List ℕ → Type 0 = IsDistinct nat_eq in subst P (sym (ids-nodes_of t)) d)
    (agree (find id t) (find id (nodes_of t)) (sees id t marks) e) where
      agree : (found : Found Node Node) (seen : Found doc.Layer doc.Group) → Sees found seen → node_of found ≡ Some n
          → Agree (λ old. layer_of m) a (λ old. group_of m) c seen
      agree nothing seen s is = cc
      agree (a_leaf x) seen s is =
          let same : n ≡ x = cc in
          let P : Found doc.Layer doc.Group → Type 0 = Agree (λ old. layer_of m) a (λ old. group_of m) c in
          subst P (sym s.1) (as_layer ∙ ap (λ y. a (layer_of y)) same)
      agree (a_group x k) seen s is =
          let same : n ≡ x = cc in
          let P : Found doc.Layer doc.Group → Type 0 = Agree (λ old. layer_of m) a (λ old. group_of m) c in
          subst P (sym s.1) (as_group ∙ ap (λ y. c (group_of y)) same)

pub marks-with_node : (id : ℕ) (n m : Node) (t : Forest Node Node) → IsDistinct nat_eq (ids t) → MarksAgree t
    → node_of (find id t) ≡ Some n → m.body ≡ n.body → MarksAgree (with_node id m t)
marks-with_node id n m t d marks e same = by_body n.body refl where
  by_body : (b : Body) → n.body ≡ b → MarksAgree (with_node id m t)
  by_body (Leaf sheet) is =
      marks-with_node-leaf id n m t d marks (leaf_seen id t n marks e (subst IsLeaf (sym is) tt))
      (subst IsLeaf (sym (same ∙ is)) tt)
  by_body Group is =
      marks-with_node-group id n m t d marks (group_seen id t n marks e (subst IsGroup (sym is) tt))
      (subst IsGroup (sym (same ∙ is)) tt)
