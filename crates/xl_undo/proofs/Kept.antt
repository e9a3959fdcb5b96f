-- A layer that is exchanged, and one that is put back.
use Rattle.std.proofs.Common.{◌≡◌, ℕ, Bool, true, false, cond, eqb, refl, sym, ◌∙◌, ap, subst}
use Rattle.std.specs.Prelude.{Some, None}
use Rattle.spec_document.specs.Forest.{Forest, none, leaf, group, find, nothing, a_leaf}
use Rattle.spec_document.specs.Changes.{with_leaf}
use Rattle.spec_document.specs.Document.{Document, Layer, Nodes}
use Rattle.spec_edit.specs.Effect.{change_leaf}
use Rattle.xl_tree.specs.Reads.{node_of}
use Rattle.xl_doc.specs.declared.node.Node.{Node}
use Rattle.xl_doc.specs.Nodes.{nodes_of, layer_of, MarksAgree}
use Rattle.xl_checks.proofs.Seen.{IsLeafAt, leaf_seen, layer_seen, no_node_seen}
use Rattle.xl_paint.proofs.OneNode.{with_leaf-same, same_leaf}
use Rattle.xl_undo.specs.Layers.{IsNodeOf}
use Rattle.xl_undo.proofs.Alike.{AreAlike, alike}

abbrev pub IsLeafSeen : (id : ℕ) → Nodes → Type 0
IsLeafSeen id nodes = (l : Layer) × (find id nodes ≡ a_leaf l)

-- where a layer is seen there is a node
pub node_there : (id : ℕ) (t : Forest Node Node) → MarksAgree t → IsLeafSeen id (nodes_of t) → node_of (find id t) ≡ None → ⊥
node_there id t marks layer absent =
    let two : a_leaf layer.0 ≡ nothing = sym layer.1 ∙ no_node_seen id t marks absent in cc

-- and it is the layer's
pub layer_at : (id : ℕ) (t : Forest Node Node) (n : Node) → MarksAgree t → IsLeafSeen id (nodes_of t) → node_of (find id t) ≡ Some n
    → IsLeafAt id n t
layer_at id t n marks layer is = leaf_seen id t n marks is (layer_seen id t n layer.0 marks layer.1 is)

-- a layer is still there once it was changed
pub still_seen : (id : ℕ) (d : Document) (n : Node) (change : Layer → Layer) (nodes : Nodes) → IsNodeOf d id n
    → nodes ≡ with_leaf id change d.nodes → IsLeafSeen id nodes
still_seen id d n change nodes of is =
    let there : AreAlike (a_leaf (layer_of n)) (find id (with_leaf id change d.nodes)) =
    subst (λ found. AreAlike found (find id (with_leaf id change d.nodes))) of.found (alike id id change d.nodes) in
    (there.0, ap (find id) is ∙ there.1)

either : {A : Type 0} (test : Bool) (l x w : A) → cond test l (cond test x w) ≡ cond test l w
either true l x w = refl
either false l x w = refl

-- of two changes at one id the later one counts, which does not look at what it finds
twice : (id : ℕ) (change : Layer → Layer) (l : Layer) (nodes : Nodes)
    → with_leaf id (λ old. l) (with_leaf id change nodes) ≡ with_leaf id (λ old. l) nodes
twice id change l none = refl
twice id change l (leaf i w u) = λ j. leaf i (either (eqb id i) l (change w) w j) (twice id change l u j)
twice id change l (group i g c u) = λ j. group i g (twice id change l c j) (twice id change l u j)

put_back : (id : ℕ) (d : Document) (n : Node) (change : Layer → Layer) → IsNodeOf d id n
    → with_leaf id (λ old. layer_of n) (with_leaf id change d.nodes) ≡ d.nodes
put_back id d n change of =
    twice id change (layer_of n) d.nodes
    ∙ (same_leaf id (λ old. layer_of n) (λ old. old) d.nodes (layer_of n) of.limits.ids.distinct of.found refl
    ∙ with_leaf-same id d.nodes)

-- The document is seen as its fields, and as what they stand for.
module _ (before now d : Document) (id : ℕ) (n : Node) (change : Layer → Layer) (nodes : Nodes) where
  pub is_back : IsNodeOf d id n → before ≡ now → now ≡ change_leaf d id change → nodes ≡ with_leaf id (λ old. layer_of n) before.nodes
      → record before { nodes = nodes } ≡ d
  is_back of same changed is =
      ap (λ x. record before { nodes = x }) is
      ∙ (ap (λ (y : Document). record y { nodes = with_leaf id (λ old. layer_of n) y.nodes }) (same ∙ changed)
      ∙ ap (λ x. record d { nodes = x }) (put_back id d n change of))
