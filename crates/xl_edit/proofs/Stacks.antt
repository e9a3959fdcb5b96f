-- Stacks of a document's nodes, and of the tree that keeps them.
use Rattle.std.proofs.Common.{◌≡◌, ℕ, ◌+◌, ◌≤◌, Bool, true, false, cond, eqb, nat_eq, List, refl, sym, ◌∙◌, ap, subst, arith}
use Rattle.std.specs.Prelude.{Option, Some, None, unwrap_or}
use Rattle.std.specs.List.{IsDistinct}
use Rattle.spec_document.specs.Forest.{Forest, ids, levels, Found, nothing, a_leaf, a_group, find}
use Rattle.spec_document.specs.Changes.{put_into}
use Rattle.spec_document.proofs.Outside.{kind}
use Rattle.spec_document.proofs.PutInto.{levels-put}
use Rattle.spec_document.specs.Document as doc
use Rattle.spec_document.specs.Document.{Nodes}
use Rattle.spec_edit.specs.declared.EditRefused.TheVariants.{NoNode, TooDeep}
use Rattle.spec_edit.specs.Refusal.{no_node_found, too_deep, depth_below}
use Rattle.spec_edit.proofs.Rules.{test_holds}
use Rattle.spec_edit.proofs.NodesLimited.{put_place, deep_at, deep_is}
use Rattle.std.proofs.lemmas.Bool.{leb-true}
use Rattle.std.specs.Prelude.{nat_le, ◌-◌}
use Rattle.xl_tree.specs.Refusals.{no_node, no_group, no_stack, put_refusal, past}
use Rattle.xl_tree.specs.Places.{first_some, alone}
use Rattle.xl_doc.specs.declared.node.Node.{Node}
use Rattle.xl_doc.specs.declared.node.Body.{Body}
use Rattle.xl_doc.specs.declared.node.Body.TheVariants.{Leaf, Group}
use Rattle.xl_doc.specs.Nodes.{nodes_of, is_group_body, IsLeaf, IsGroup, MarksAgree}
use Rattle.xl_edit.specs.Nodes.{one_node}
use Rattle.xl_checks.proofs.Seen.{Sees, sees, ids-nodes_of}
use Rattle.xl_checks.proofs.NodesMoved.{children-nodes_of, levels-nodes_of, nodes-put_into}

pub no_group_seen : (id : ℕ) (found : Found Node Node) (seen : Found doc.Layer doc.Group) → Sees found seen
    → no_group id seen ≡ no_group id found
no_group_seen id nothing seen s = ap (no_group id) s
no_group_seen id (a_leaf n) seen s = ap (no_group id) s.1
no_group_seen id (a_group n c) seen s = ap (no_group id) s.1

-- a tree refuses to put something into it as the document would
pub put_refusal-nodes_of : (stack place : ℕ) (t : Forest Node Node) → MarksAgree t
    → put_refusal stack place (nodes_of t) ≡ put_refusal stack place t
put_refusal-nodes_of stack place t m = λ j.
    first_some (cond (eqb stack 0) None (no_group_seen stack (find stack t) (find stack (nodes_of t)) (sees stack t m) j))
    (past place (unwrap_or (children-nodes_of stack t j) 0))

-- ---- depths

group_kind : {L G : Type 0} → (p : ℕ) (x : Found L G) → no_group p x ≡ None → kind x ≡ 2
group_kind p nothing e = cc
group_kind p (a_leaf w) e = cc
group_kind p (a_group w c) e = refl

stack_kind : {L G : Type 0} → (p : ℕ) (f : Forest L G) → no_stack p f ≡ None → eqb p 0 ≡ false → kind (find p f) ≡ 2
stack_kind p f e z = group_kind p (find p f) (sym (ap (λ b. cond b None (no_group p (find p f))) z) ∙ e)

-- a branch that is put in is not too deep where its rule says so
pub levels_put : (parent place : ℕ) (branch f : Nodes) → IsDistinct nat_eq (ids f) → no_stack parent f ≡ None
    → too_deep f parent (levels branch) ≡ None → levels f ≤ 8
    → levels (put_into parent place branch f) ≤ 8
levels_put parent place branch f distinct there deep low =
    let put = put_place parent place branch f distinct (stack_kind parent f there) in
    let depth = depth_below f parent + levels branch - 1 in
    let most = levels-put branch f (put_into parent place branch f) (deep_at f parent) put in
    omega (arith, most, low, leb-true depth 8 (test_holds (nat_le depth 8) (TooDeep depth) deep), deep_is f parent)

-- a refusal of two that is none
pub both_none : {A : Type 0} → (a b : Option A) → first_some a b ≡ None → (a ≡ None) × (b ≡ None)
both_none None b e = (refl, e)
both_none (Some x) b e = cc

-- a node that no rule misses is found in the tree
pub found_there : (id : ℕ) (t : Forest Node Node) → MarksAgree t → no_node_found id (find id (nodes_of t)) ≡ None
    → no_node id (find id t) ≡ None
found_there id t m e = from (find id t) (find id (nodes_of t)) (sees id t m) e where
  from : (found : Found Node Node) (seen : Found doc.Layer doc.Group) → Sees found seen → no_node_found id seen ≡ None
      → no_node id found ≡ None
  from nothing seen s e = let two : Some (NoNode id) ≡ None = sym (ap (no_node_found id) s) ∙ e in cc
  from (a_leaf n) seen s e = refl
  from (a_group n c) seen s e = refl

-- ---- one node

levels_one : (id : ℕ) (n : Node) → levels (one_node id n) ≡ 1
levels_one id n = from (is_group_body n.body) where
  from : (mark : Bool) → levels (nodes_of (alone mark id n)) ≡ 1
  from true = refl
  from false = refl

pub marks_one : (id : ℕ) (n : Node) → MarksAgree (alone (is_group_body n.body) id n)
marks_one id n = from n.body refl where
  P : Body → Type 0
  P b = MarksAgree (alone (is_group_body b) id n)

  from : (b : Body) → n.body ≡ b → MarksAgree (alone (is_group_body n.body) id n)
  from (Leaf s) is = subst P (sym is) (subst IsLeaf (sym is) tt, tt)
  from Group is = subst P (sym is) (subst IsGroup (sym is) tt, (tt, tt))

-- a tree with one node more is not too deep where the rule of the document says so
pub low_with_one : (parent place id : ℕ) (n : Node) (t : Forest Node Node) → IsDistinct nat_eq (ids t)
    → put_refusal parent place (nodes_of t) ≡ None
    → too_deep (nodes_of t) parent 1 ≡ None → levels t ≤ 8
    → levels (put_into parent place (alone (is_group_body n.body) id n) t) ≤ 8
low_with_one parent place id n t distinct free deep low =
    let b : Forest Node Node = alone (is_group_body n.body) id n in
    let P : List ℕ → Type 0 = IsDistinct nat_eq in
    let apart = subst P (sym (ids-nodes_of t)) distinct in
    let there = (both_none (no_stack parent (nodes_of t)) _ free).0 in
    let Q : ℕ → Type 0 = λ k. too_deep (nodes_of t) parent k ≡ None in
    let most = levels_put parent place (one_node id n) (nodes_of t) apart there (subst Q (sym (levels_one id n)) deep)
    (omega (arith, levels-nodes_of t, low)) in
    omega (arith, most, levels-nodes_of (put_into parent place b t), ap levels (nodes-put_into parent place b t))
