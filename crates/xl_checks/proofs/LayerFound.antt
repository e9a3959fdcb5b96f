-- The layer at an id, in a document and in its tree.
use Rattle.std.proofs.Common.{◌≡◌, ℕ, [], ◌∷◌, refl, sym, ◌∙◌, ap, subst}
use Rattle.std.specs.Prelude.{Some, None}
use Rattle.spec_document.specs.Forest.{Forest, Found, nothing, a_leaf, a_group, find}
use Rattle.spec_document.specs.Document.{Layer, Group}
use Rattle.spec_edit.specs.declared.EditRefused.TheVariants.{NoNode, IsGroup}
use Rattle.spec_edit.specs.Refusal.{first, no_node_found, is_group_found}
use Rattle.xl_tree.specs.Reads.{node_of}
use Rattle.xl_doc.specs.Sheet.{Sheet}
use Rattle.xl_doc.specs.declared.node.Node.{Node}
use Rattle.xl_doc.specs.declared.node.Body.TheVariants as body
use Rattle.xl_doc.specs.Nodes as nodes
use Rattle.xl_doc.specs.Nodes.{nodes_of, layer_of, IsLeaf, MarksAgree}
use Rattle.xl_checks.specs.Found.{IsLayer, sheet_of_layer, sheet_found}
use Rattle.xl_checks.proofs.Seen.{no_node_seen, leaf_seen, group_seen, layer_seen, IsLeafAt, IsGroupAt}

-- ---- a tree is asked for the layer

pub absent_refused : (id : ℕ) (t : Forest Node Node) → MarksAgree t → node_of (find id t) ≡ None
    → first (no_node_found id (find id (nodes_of t)) ∷ is_group_found id (find id (nodes_of t)) ∷ []) ≡ Some (NoNode id)
absent_refused id t m e = ap (λ f. first (no_node_found id f ∷ is_group_found id f ∷ [])) (no_node_seen id t m e)

pub group_refused : (id : ℕ) (t : Forest Node Node) (n : Node) → MarksAgree t → node_of (find id t) ≡ Some n → n.body ≡ body.Group
    → first (no_node_found id (find id (nodes_of t)) ∷ is_group_found id (find id (nodes_of t)) ∷ []) ≡ Some (IsGroup id)
group_refused id t n m e is =
    let at : IsGroupAt id n t = group_seen id t n m e (subst nodes.IsGroup (sym is) tt) in
    ap (λ f. first (no_node_found id f ∷ is_group_found id f ∷ [])) at.seen

pub leaf_found : (id : ℕ) (t : Forest Node Node) (n : Node) (s : Sheet) → MarksAgree t → node_of (find id t) ≡ Some n
    → n.body ≡ body.Leaf s → sheet_found (find id (nodes_of t)) ≡ Some s
leaf_found id t n s m e is =
    let at : IsLeafAt id n t = leaf_seen id t n m e (subst IsLeaf (sym is) tt) in
    ap sheet_found at.seen ∙ ap (λ b. Some (nodes.sheet_of b)) is

-- ---- a layer is known to be there

record LayerAt (Holds : Layer → Type 0) (found : Found Layer Group) : Type 0 where
  layer : Layer
  is : found ≡ a_leaf layer
  holds : Holds layer

layer_at : (Holds : Layer → Type 0) (found : Found Layer Group) → IsLayer Holds found → LayerAt Holds found
layer_at Holds nothing h = absurd h
layer_at Holds (a_leaf l) h = record { layer = l; is = refl; holds = h }
layer_at Holds (a_group g c) h = absurd h

pub not_absent : (Holds : Layer → Type 0) (id : ℕ) (t : Forest Node Node) → MarksAgree t → IsLayer Holds (find id (nodes_of t))
    → node_of (find id t) ≡ None → ⊥
not_absent Holds id t m h e = subst (IsLayer Holds) (no_node_seen id t m e) h

pub leaf_at : (Holds : Layer → Type 0) (id : ℕ) (t : Forest Node Node) (n : Node) → MarksAgree t
    → IsLayer Holds (find id (nodes_of t)) → node_of (find id t) ≡ Some n
    → IsLeafAt id n t
leaf_at Holds id t n m h e =
    let l : LayerAt Holds (find id (nodes_of t)) = layer_at Holds (find id (nodes_of t)) h in
    leaf_seen id t n m e (layer_seen id t n l.layer m l.is e)

pub holds_of_leaf : (Holds : Layer → Type 0) (id : ℕ) (t : Forest Node Node) (n : Node) → IsLeafAt id n t
    → IsLayer Holds (find id (nodes_of t)) → Holds (layer_of n)
holds_of_leaf Holds id t n at h = subst (IsLayer Holds) at.seen h

-- what holds of each layer with these pixels holds of the one that is found
pub of_sheet : (Holds : Layer → Type 0) (s : Sheet) (found : Found Layer Group) → sheet_found found ≡ Some s
    → ((l : Layer) → sheet_of_layer l ≡ s → Holds l) → IsLayer Holds found
of_sheet Holds s nothing is each = cc
of_sheet Holds s (a_leaf l) is each = let same : sheet_of_layer l ≡ s = cc in each l same
of_sheet Holds s (a_group g c) is each = cc

-- what follows from what is known of the layer
pub is_layer-weaker : (A B : Layer → Type 0) (found : Found Layer Group) → ((l : Layer) → A l → B l) → IsLayer A found
    → IsLayer B found
is_layer-weaker A B nothing more h = h
is_layer-weaker A B (a_leaf l) more h = more l h
is_layer-weaker A B (a_group g c) more h = h
