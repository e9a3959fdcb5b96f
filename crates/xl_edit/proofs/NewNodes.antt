-- Nodes that are made.
use Rattle.std.proofs.Common.{◌≡◌, List, ℕ, ◌+◌, ◌<◌, true, false, cond, nat_eq, [], refl, sym, ◌∙◌, ap, arith}
use Rattle.std.specs.Prelude.{None, Ok}
use Rattle.std.proofs.lemmas.Bool.{ne_eqb}
use Rattle.spec_document.specs.Forest.{Forest, none, leaf, group, ids, Found, nothing, a_leaf, a_group, find}
use Rattle.spec_document.proofs.Distinct.{IsNot, nothing_from_ids}
use Rattle.spec_document.specs.Document.{Document, Layer, Group}
use Rattle.spec_document.proofs.Elements.{all-each}
use Rattle.spec_edit.specs.Edit.{Edit, IsEdit}
use Rattle.spec_edit.specs.Refusal.{refusal}
use Rattle.spec_edit.specs.Effect.{effect, makes_node}
use Rattle.spec_edit.specs.Apply as edits
use Rattle.spec_edit.proofs.EditsLimited.{keeps}
use Rattle.xl_tree.specs.Ids.{IsNew}
use Rattle.xl_tree.specs.Places.{alone}
use Rattle.xl_doc.specs.declared.node.Node.{Node}
use Rattle.xl_doc.specs.Nodes.{nodes_of, layer_of, group_of, is_group_body, MarksAgree}
use Rattle.xl_paint.specs.Applied.{at}
use Rattle.xl_calls.specs.Applicable.{HasNext}
use Rattle.xl_edit.specs.Kept.{KeepsLimits}
use Rattle.xl_edit.specs.Nodes.{one_node}
use Rattle.xl_checks.proofs.Seen.{Sees, sees}

-- the document is what the edit makes of it, and the next id is taken
pub node_made : (d new : Document) (next : ℕ) (table : List ℕ) (e : Edit) → makes_node e ≡ true → refusal d e ≡ None
    → effect d next table e ≡ new
    → edits.apply (at d next) e table ≡ Ok (at new (next + 1))
node_made d new next table e makes allowed is = λ i. edits.unless_refused (allowed i) (at (is i) (cond (makes i) (next + 1) next))

-- a document with a new node is within its limits
pub limits_with_node : (d : Document) (next : ℕ) (e : Edit) → IsEdit e → HasNext d next e → makes_node e ≡ true → refusal d e ≡ None
    → KeepsLimits d (effect d next [] e)
limits_with_node d next e kept has makes allowed is =
    (keeps d next [] e (record { document = is; positive = has.positive; below = has.below }) kept tt
    (λ takes. omega (arith, has.another takes)) allowed).at.document

not_below : (n x : ℕ) → x < n → nat_eq n x ≡ false
not_below n x h = ne_eqb n x (λ e. omega (arith, h, e))

-- no node has the next id
pub next_is_new : (d : Document) (next : ℕ) (e : Edit) → HasNext d next e → IsNew next d.nodes
next_is_new d next e has = record {
  positive = has.positive;
  nowhere = nothing_from_ids next d.nodes (all-each (λ id. id < next) (IsNot next) (ids d.nodes) (not_below next) has.below);
}

found_nowhere : (found : Found Node Node) (seen : Found Layer Group) → Sees found seen → seen ≡ nothing → found ≡ nothing
found_nowhere nothing seen s e = refl
found_nowhere (a_leaf n) seen s e = let two : a_leaf (layer_of n) ≡ nothing = sym s.1 ∙ e in cc
found_nowhere (a_group n c) seen s e = let two : a_group (group_of n) (nodes_of c) ≡ nothing = sym s.1 ∙ e in cc

-- an id that is new in a document is new in its tree
pub new_in_tree : (id : ℕ) (t : Forest Node Node) → MarksAgree t → IsNew id (nodes_of t) → IsNew id t
new_in_tree id t m new = record {
  positive = new.positive;
  nowhere = found_nowhere (find id t) (find id (nodes_of t)) (sees id t m) new.nowhere;
}

-- a node that is no group is a layer
pub one_layer : (id : ℕ) (n : Node) (l : Layer) → is_group_body n.body ≡ false → layer_of n ≡ l → one_node id n ≡ leaf id l none
one_layer id n l mark e = (λ i. nodes_of (alone (mark i) id n)) ∙ ap (λ x. leaf id x none) e

-- and else a group
pub one_group : (id : ℕ) (n : Node) (g : Group) → is_group_body n.body ≡ true → group_of n ≡ g
    → one_node id n ≡ group id g none none
one_group id n g mark e = (λ i. nodes_of (alone (mark i) id n)) ∙ ap (λ x. group id x none none) e
