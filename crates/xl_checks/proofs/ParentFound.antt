-- The parent of a new node, in a document and in its tree.
use Rattle.std.proofs.Common.{◌≡◌, ℕ, false, cond, eqb, [], ◌∷◌, List, ◌∙◌, ap}
use Rattle.std.specs.Prelude.{Option, Some, None}
use Rattle.spec_document.specs.Forest.{Forest, Found, find}
use Rattle.spec_document.specs.Document.{Layer, Group}
use Rattle.spec_edit.specs.declared.EditRefused.{EditRefused}
use Rattle.spec_edit.specs.declared.EditRefused.TheVariants.{NoNode, NotGroup}
use Rattle.spec_edit.specs.Refusal.{first, no_node_found, of_leaf}
use Rattle.xl_tree.specs.Reads.{node_of}
use Rattle.xl_tree.specs.Refusals.{no_group, no_stack}
use Rattle.xl_doc.specs.declared.node.Node.{Node}
use Rattle.xl_doc.specs.Nodes.{nodes_of, IsLeaf, IsGroup, MarksAgree}
use Rattle.xl_checks.proofs.Seen.{no_node_seen, leaf_seen, group_seen, IsLeafAt, IsGroupAt}

-- the two rules of a parent, which is found so
abbrev pub parent_rules : (id : ℕ) → Found Layer Group → List (Option EditRefused)
parent_rules id found =
    cond (eqb id 0) None (no_node_found id found) ∷ cond (eqb id 0) None (of_leaf (λ l. Some (NotGroup id)) found) ∷ []

other_than_top : (id : ℕ) (found : Found Layer Group) → eqb id 0 ≡ false
    → first (parent_rules id found) ≡ first (no_node_found id found ∷ of_leaf (λ l. Some (NotGroup id)) found ∷ [])
other_than_top id found z =
    λ j. first (cond (z j) None (no_node_found id found) ∷ cond (z j) None (of_leaf (λ l. Some (NotGroup id)) found) ∷ [])

pub parent_absent : (id : ℕ) (t : Forest Node Node) → eqb id 0 ≡ false → MarksAgree t → node_of (find id t) ≡ None
    → first (parent_rules id (find id (nodes_of t))) ≡ Some (NoNode id)
parent_absent id t z m e = other_than_top id (find id (nodes_of t)) z
    ∙ ap (λ f. first (no_node_found id f ∷ of_leaf (λ l. Some (NotGroup id)) f ∷ [])) (no_node_seen id t m e)

pub parent_is_leaf : (id : ℕ) (t : Forest Node Node) (n : Node) → eqb id 0 ≡ false → MarksAgree t → node_of (find id t) ≡ Some n
    → IsLeaf n.body
    → first (parent_rules id (find id (nodes_of t))) ≡ Some (NotGroup id)
parent_is_leaf id t n z m e is =
    let at : IsLeafAt id n t = leaf_seen id t n m e is in
    other_than_top id (find id (nodes_of t)) z
    ∙ ap (λ f. first (no_node_found id f ∷ of_leaf (λ l. Some (NotGroup id)) f ∷ [])) at.seen

pub parent_is_group : (id : ℕ) (t : Forest Node Node) (n : Node) → eqb id 0 ≡ false → MarksAgree t → node_of (find id t) ≡ Some n
    → IsGroup n.body
    → first (parent_rules id (find id (nodes_of t))) ≡ None
parent_is_group id t n z m e is =
    let at : IsGroupAt id n t = group_seen id t n m e is in
    other_than_top id (find id (nodes_of t)) z
    ∙ ap (λ f. first (no_node_found id f ∷ of_leaf (λ l. Some (NotGroup id)) f ∷ [])) at.seen

pub stack_is_there : (id : ℕ) (t : Forest Node Node) (n : Node) → eqb id 0 ≡ false → MarksAgree t → node_of (find id t) ≡ Some n
    → IsGroup n.body → no_stack id (nodes_of t) ≡ None
stack_is_there id t n z m e is =
    let at : IsGroupAt id n t = group_seen id t n m e is in
    ap (λ b. cond b None (no_group id (find id (nodes_of t)))) z ∙ ap (no_group id) at.seen
