-- What a document has at an id is what its tree has there.
use Rattle.std.proofs.Common.{◌≡◌, ℕ, ◌+◌, Bool, true, false, cond, refl, sym, subst, arith}
use Rattle.std.specs.Prelude.{◌==◌, Option}
use Rattle.spec_document.specs.Forest.{Forest, none, leaf, group, Found, nothing, a_leaf, a_group, or_else, find}
use Rattle.spec_document.specs.Document.{Layer, Group}
use Rattle.xl_tree.specs.Reads.{node_of}
use Rattle.xl_doc.specs.declared.node.Node.{Node}
use Rattle.xl_doc.specs.declared.node.Body.{Body}
use Rattle.xl_doc.specs.declared.node.Body.TheVariants as body
use Rattle.xl_doc.specs.Nodes.{nodes_of, layer_of, group_of, IsLeaf, MarksAgree}
use Rattle.spec_undo.specs.Changed.{over_layers}
use Rattle.xl_undo.specs.Held.{held}
use Rattle.xl_undo.specs.Seen.{IsLayerOf, IsSeen}

either : (x y : Found Layer Group) (a b : Found Node Node) → IsSeen x (node_of a) → IsSeen y (node_of b)
    → IsSeen (or_else x y) (node_of (or_else a b))
either nothing y nothing b p q = q
either nothing y (a_leaf n) b p q = absurd p
either nothing y (a_group n c) b p q = absurd p
either (a_leaf l) y nothing b p q = absurd p
either (a_leaf l) y (a_leaf n) b p q = p
either (a_leaf l) y (a_group n c) b p q = p
either (a_group g d) y nothing b p q = absurd p
either (a_group g d) y (a_leaf n) b p q = p
either (a_group g d) y (a_group n c) b p q = p

by_test : (test : Bool) (x y : Found Layer Group) (a b : Found Node Node) → IsSeen x (node_of a) → IsSeen y (node_of b)
    → IsSeen (cond test x y) (node_of (cond test a b))
by_test true x y a b p q = p
by_test false x y a b p q = q

-- the layer of a leaf is that of its body
pub layer_is : (n : Node) (b : Body) → IsLeaf b → IsLayerOf (layer_of (record n { body = b })) b
layer_is n (body.Leaf sheet) h = (refl, refl)
layer_is n body.Group h = absurd h

pub seen_at : (id : ℕ) (f : Forest Node Node) → MarksAgree f → IsSeen (find id (nodes_of f)) (node_of (find id f))
seen_at id none h = tt
seen_at id (leaf i n under) h =
    by_test (id == i) (a_leaf (layer_of n)) (find id (nodes_of under)) (a_leaf n) (find id under)
    (layer_is n n.body h.0) (seen_at id under h.1)
seen_at id (group i n children under) h =
    by_test (id == i) (a_group (group_of n) (nodes_of children)) (or_else (find id (nodes_of children)) (find id (nodes_of under)))
    (a_group n children) (or_else (find id children) (find id under)) h.0
    (either (find id (nodes_of children)) (find id (nodes_of under)) (find id children) (find id under) (seen_at id children h.1.0)
    (seen_at id under h.1.1))

-- what the tree has at an id is what the document has there
pub seen : (id : ℕ) (f : Forest Node Node) (o : Option Node) → MarksAgree f → o ≡ node_of (find id f)
    → IsSeen (find id (nodes_of f)) o
seen id f o h is = subst (IsSeen (find id (nodes_of f))) (sym is) (seen_at id f h)

-- the layer on top
pub top_is : (f under : Forest Node Node) (id : ℕ) (n : Node) → MarksAgree f → leaf id n under ≡ f → IsLayerOf (layer_of n) n.body
top_is f under id n h is = layer_is n n.body (subst MarksAgree (sym is) h).0

-- the layer on top and all below it
pub leaf_counted : (count : Layer → Found Layer Group
    → ℕ) (other nodes under : Forest Node Node) (id : ℕ) (n : Node) (one rest sum : ℕ) → leaf id n under ≡ nodes
    → one ≡ held (count (layer_of n) (find id (nodes_of other)))
    → rest ≡ held (over_layers count (nodes_of other) (nodes_of under)) → sum ≡ held (one + rest)
    → sum ≡ held (over_layers count (nodes_of other) (nodes_of nodes))
leaf_counted count other nodes under id n one rest sum is a b s =
    subst (λ f. sum ≡ held (over_layers count (nodes_of other) (nodes_of f))) is (omega (arith, a, b, s))
