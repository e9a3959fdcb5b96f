-- A node that moves, in a document and in its tree.
use Rattle.std.proofs.Common.{◌≡◌, ℕ, ◌+◌, ◌≤◌, Bool, true, false, cond, eqb, nat_eq, not, List, [], ◌∷◌, refl, sym, ◌∙◌, ap, arith}
use Rattle.std.specs.Prelude.{Option, Some, None, option_map, unwrap_or, nat_le, ◌||◌}
use Rattle.std.specs.List.{IsDistinct, list_any}
use Rattle.spec_document.specs.Forest.{Forest, none, leaf, group, ids, count, levels, Found, nothing, a_leaf, a_group}
use Rattle.spec_document.specs.Forest.{find, stack_at, ancestors}
use Rattle.spec_document.specs.Changes.{above, put_into, without, branch_of}
use Rattle.spec_document.specs.Document as doc
use Rattle.spec_document.specs.Document.{Document}
use Rattle.spec_edit.specs.declared.EditRefused.TheVariants as refused
use Rattle.spec_edit.specs.Edit.{restack}
use Rattle.spec_edit.specs.Refusal as rules
use Rattle.spec_edit.specs.Refusal.{refusal, no_node_found, no_parent, not_group, too_deep, of_leaf, children}
use Rattle.spec_edit.proofs.Rules.{hold, test_holds, not_holds, either_fails}
use Rattle.xl_tree.specs.Reads.{levels_of}
use Rattle.xl_tree.specs.Refusals.{no_node, no_group, no_stack, past, restack_refusal, stands_in}
use Rattle.xl_tree.specs.Places.{first_some}
use Rattle.xl_tree.specs.declared.refused.TreeRefused.TheVariants.{Inside, BadPlace}
use Rattle.xl_doc.specs.declared.node.Node.{Node}
use Rattle.xl_doc.specs.Nodes.{nodes_of, layer_of, group_of, MarksAgree}
use Rattle.xl_doc.proofs.NodesOf.{stack-nodes_of}
use Rattle.xl_edit.specs.Children.{is_child}
use Rattle.xl_checks.proofs.NodesMoved.{nodes-without, nodes-above, nodes-put_into, marks-above, marks-without}
use Rattle.xl_checks.proofs.NodesMoved.{marks-put_into, children-nodes_of, ancestors-nodes_of, levels-nodes_of}
use Rattle.xl_checks.proofs.Seen.{Sees, sees}
use Rattle.xl_edit.proofs.Stacks.{no_group_seen}
use Rattle.xl_edit.proofs.WithoutBranch.{one, children_left, levels_found}

-- ---- the branch

either : {A B : Type 0} → (f : A → B) (test : Bool) (x y : A) → f (cond test x y) ≡ cond test (f x) (f y)
either f true x y = refl
either f false x y = refl

pub nodes-branch_of : (id : ℕ) (t : Forest Node Node) → nodes_of (branch_of id t) ≡ branch_of id (nodes_of t)
nodes-branch_of id none = refl
nodes-branch_of id (leaf i n u) =
    either nodes_of (eqb id i) (leaf i n none) (branch_of id u)
    ∙ ap (cond (eqb id i) (leaf i (layer_of n) none)) (nodes-branch_of id u)
nodes-branch_of id (group i n c u) =
    either nodes_of (eqb id i) (group i n c none) (above (branch_of id c) (branch_of id u))
    ∙ ap (cond (eqb id i) (group i (group_of n) (nodes_of c) none))
    (nodes-above (branch_of id c) (branch_of id u) ∙ (λ j. above (nodes-branch_of id c j) (nodes-branch_of id u j)))

marks_cond : (test : Bool) (x y : Forest Node Node) → MarksAgree x → MarksAgree y → MarksAgree (cond test x y)
marks_cond true x y p q = p
marks_cond false x y p q = q

pub marks-branch_of : (id : ℕ) (t : Forest Node Node) → MarksAgree t → MarksAgree (branch_of id t)
marks-branch_of id none m = tt
marks-branch_of id (leaf i n u) m = marks_cond (eqb id i) (leaf i n none) (branch_of id u) (m.0, tt) (marks-branch_of id u m.1)
marks-branch_of id (group i n c u) m =
    marks_cond (eqb id i) (group i n c none) (above (branch_of id c) (branch_of id u)) (m.0, (m.1.0, tt))
    (marks-above (branch_of id c) (branch_of id u) (marks-branch_of id c m.1.0) (marks-branch_of id u m.1.1))

pub nodes-restacked : (id p place : ℕ) (t : Forest Node Node)
    → nodes_of (put_into p place (branch_of id t) (without id t))
    ≡ put_into p place (branch_of id (nodes_of t)) (without id (nodes_of t))
nodes-restacked id p place t =
    nodes-put_into p place (branch_of id t) (without id t) ∙ (λ j. put_into p place (nodes-branch_of id t j) (nodes-without id t j))

pub marks-restacked : (id p place : ℕ) (t : Forest Node Node) → MarksAgree t
    → MarksAgree (put_into p place (branch_of id t) (without id t))
marks-restacked id p place t m =
    marks-put_into p place (branch_of id t) (without id t) (marks-branch_of id t m) (marks-without id t m)

pub levels-restacked : (id p place : ℕ) (t : Forest Node Node)
    → levels (put_into p place (branch_of id t) (without id t))
    ≡ levels (put_into p place (branch_of id (nodes_of t)) (without id (nodes_of t)))
levels-restacked id p place t =
    sym (levels-nodes_of (put_into p place (branch_of id t) (without id t))) ∙ ap levels (nodes-restacked id p place t)

-- ---- what the tree refuses

no_node_seen : (id : ℕ) (found : Found Node Node) (seen : Found doc.Layer doc.Group) → Sees found seen
    → no_node id seen ≡ no_node id found
no_node_seen id nothing seen s = ap (no_node id) s
no_node_seen id (a_leaf n) seen s = ap (no_node id) s.1
no_node_seen id (a_group n c) seen s = ap (no_node id) s.1

pub stands_seen : (p id : ℕ) (t : Forest Node Node) → stands_in (nodes_of t) p id ≡ stands_in t p id
stands_seen p id t =
    ap (λ o. eqb p id || unwrap_or (option_map (λ above. list_any (λ i. eqb i id) above) o) false) (ancestors-nodes_of p t)

-- a tree refuses to move a node as the document would
pub restack_refusal-nodes_of : (id p place : ℕ) (t : Forest Node Node) → MarksAgree t
    → restack_refusal id p place (nodes_of t) ≡ restack_refusal id p place t
restack_refusal-nodes_of id p place t m = λ j.
    first_some (no_node_seen id (find id t) (find id (nodes_of t)) (sees id t m) j)
    (first_some (cond (eqb p 0) None (no_group_seen p (find p t) (find p (nodes_of t)) (sees p t m) j))
    (first_some (cond (stands_seen p id t j) (Some (Inside p)) None)
    (past place (unwrap_or ((ap (λ f. option_map count (stack_at p f)) (sym (nodes-without id t))
    ∙ children-nodes_of p (without id t)) j) 0))))

found_node : (id : ℕ) (found : Found doc.Layer doc.Group) → no_node_found id found ≡ None → no_node id found ≡ None
found_node id nothing e = cc
found_node id (a_leaf l) e = refl
found_node id (a_group g c) e = refl

found_group : (p : ℕ) (found : Found doc.Layer doc.Group) → no_node_found p found ≡ None
    → of_leaf (λ l. Some (refused.NotGroup p)) found ≡ None → no_group p found ≡ None
found_group p nothing e f = cc
found_group p (a_leaf l) e f = cc
found_group p (a_group g c) e f = refl

found_stack : (d : Document) (p : ℕ) → no_parent d p ≡ None → not_group d p ≡ None → no_stack p d.nodes ≡ None
found_stack d p some is = from (eqb p 0) some is where
  from : (b : Bool) → cond b None (no_node_found p (find p d.nodes)) ≡ None
      → cond b None (of_leaf (λ l. Some (refused.NotGroup p)) (find p d.nodes)) ≡ None
      → cond b None (no_group p (find p d.nodes)) ≡ None
  from true e f = refl
  from false e f = found_group p (find p d.nodes) e f

-- what the rules of the document allow, the tree does not refuse
pub restack_free : (d : Document) (id p place : ℕ) → refusal d (restack id p place) ≡ None
    → restack_refusal id p place d.nodes ≡ None
restack_free d id p place allowed =
    let r6 = too_deep d.nodes p (levels (branch_of id d.nodes)) ∷ [] in
    let r5 = rules.bad_place (without id d.nodes) p place ∷ r6 in
    let r4 = rules.inside d id p ∷ r5 in
    let r3 = not_group d p ∷ r4 in
    let r2 = no_parent d p ∷ r3 in
    let h1 = hold (rules.no_node d id) r2 allowed in
    let h2 = hold (no_parent d p) r3 h1.others in
    let h3 = hold (not_group d p) r4 h2.others in
    let h4 = hold (rules.inside d id p) r5 h3.others in
    let h5 = hold (rules.bad_place (without id d.nodes) p place) r6 h4.others in
    let n = children (without id d.nodes) p in
    let outside = not_holds (stands_in d.nodes p id) (test_holds (not (stands_in d.nodes p id)) (refused.Inside p) h4.this) in
    let enough = test_holds (nat_le place n) (refused.BadPlace n) h5.this in
    λ j. first_some (found_node id (find id d.nodes) h1.this j)
    (first_some (found_stack d p h2.this h3.this j)
    (first_some (cond (outside j) (Some (Inside p)) None) (cond (enough j) None (Some (BadPlace n)))))

-- ---- numbers

any_of : (q : List ℕ → Bool) (o : Option (List ℕ)) → q [] ≡ false → unwrap_or (option_map q o) false ≡ q (unwrap_or o [])
any_of q None e = sym e
any_of q (Some xs) e = refl

-- a stack outside of a node has one child less without it, where it is a child
pub children_without : (id p : ℕ) (d : Document) → IsDistinct nat_eq (ids d.nodes) → rules.inside d id p ≡ None
    → children (without id d.nodes) p + one (is_child id (stack_at p d.nodes)) ≡ children d.nodes p
children_without id p d distinct apart =
    let outside = either_fails (eqb p id) _
    (not_holds (stands_in d.nodes p id) (test_holds (not (stands_in d.nodes p id)) (refused.Inside p) apart)) in
    children_left id p d.nodes distinct outside.0 (sym (any_of (list_any (λ i. eqb i id)) (ancestors p d.nodes) refl) ∙ outside.1)

-- the children of a stack, in the document and in the tree
pub child_seen : (id p : ℕ) (d : Document) (t : Forest Node Node) (stack : Option (Forest Node Node)) → nodes_of t ≡ d.nodes
    → stack ≡ stack_at p t
    → is_child id (option_map nodes_of stack) ≡ is_child id (stack_at p d.nodes)
child_seen id p d t stack same is =
    ap (λ o. is_child id (option_map nodes_of o)) is
    ∙ (sym (ap (is_child id) (stack-nodes_of p t)) ∙ ap (λ f. is_child id (stack_at p f)) same)

-- the levels from a node down, in the tree and in the document
pub levels-branch-nodes_of : (id : ℕ) (t : Forest Node Node) → IsDistinct nat_eq (ids t)
    → levels_of (find id t) ≡ levels (branch_of id (nodes_of t))
levels-branch-nodes_of id t distinct =
    levels_found id t distinct ∙ (sym (levels-nodes_of (branch_of id t)) ∙ ap levels (nodes-branch_of id t))

pub some_levels : (id : ℕ) (found : Found Node Node) → no_node id found ≡ None → 1 ≤ levels_of found
some_levels id nothing e = cc
some_levels id (a_leaf n) e = omega arith
some_levels id (a_group n c) e = omega arith
