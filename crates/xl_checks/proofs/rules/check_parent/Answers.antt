-- What the tree answers is said of the document's nodes.
use Rattle.std.proofs.Common.{rules, ◌≡◌, false, eqb, [], ◌∷◌, sym, ◌∙◌, ap, subst, Some, None}
use Rattle.std.specs.Option.{option_copied}
use Rattle.spec_document.specs.Forest.{find}
use Rattle.spec_document.specs.Document.{Document}
use Rattle.spec_edit.specs.declared.EditRefused.TheVariants.{NoNode, NotGroup}
use Rattle.spec_edit.specs.Refusal.{first, no_parent, not_group}
use Rattle.xl_tree.specs.Reads.{node_of}
use Rattle.xl_tree.specs.Refusals.{no_stack}
use Rattle.xl_doc.specs.Nodes.{IsLeaf, IsGroup}
use Rattle.xl_checks.proofs.ParentFound.{parent_absent, parent_is_leaf, parent_is_group, stack_is_there}
use Rattle.xl_checks.proofs.rules.check_parent.Goals as goal

pub returns-in_default-clause-refused : goal.returns-in_default-clause-refused
returns-in_default-clause-refused c =
    let p = c.args.parent.0 in
    let t = c.doc.inside.tree in
    let z : eqb p 0 ≡ false = search rules in
    let e : node_of (find p t) ≡ None = sym c.find.ensures ∙ ap option_copied c.in_default.is in
    let P : Document → Type 0 = λ x. first (no_parent x p ∷ not_group x p ∷ []) ≡ Some (NoNode p) in
    subst P c.doc.view_is (parent_absent p t z c.doc.invariant.marks e)

pub returns-in-Leaf-clause-refused : goal.returns-in-Leaf-clause-refused
returns-in-Leaf-clause-refused c =
    let p = c.args.parent.0 in
    let t = c.doc.inside.tree in
    let z : eqb p 0 ≡ false = search rules in
    let e : node_of (find p t) ≡ Some c.in-Some.node.now = sym c.find.ensures ∙ ap option_copied c.in-Some.is in
    let P : Document → Type 0 = λ x. first (no_parent x p ∷ not_group x p ∷ []) ≡ Some (NotGroup p) in
    subst P c.doc.view_is (parent_is_leaf p t c.in-Some.node.now z c.doc.invariant.marks e (subst IsLeaf (sym c.in-Leaf.is) tt))

pub returns-in-Group-clause-allowed : goal.returns-in-Group-clause-allowed
returns-in-Group-clause-allowed c =
    let p = c.args.parent.0 in
    let t = c.doc.inside.tree in
    let z : eqb p 0 ≡ false = search rules in
    let e : node_of (find p t) ≡ Some c.in-Some.node.now = sym c.find.ensures ∙ ap option_copied c.in-Some.is in
    let P : Document → Type 0 = λ x. first (no_parent x p ∷ not_group x p ∷ []) ≡ None in
    subst P c.doc.view_is (parent_is_group p t c.in-Some.node.now z c.doc.invariant.marks e (subst IsGroup (sym c.in-Group.is) tt))

pub returns-in-Group-clause-there : goal.returns-in-Group-clause-there
returns-in-Group-clause-there c =
    let p = c.args.parent.0 in
    let t = c.doc.inside.tree in
    let z : eqb p 0 ≡ false = search rules in
    let e : node_of (find p t) ≡ Some c.in-Some.node.now = sym c.find.ensures ∙ ap option_copied c.in-Some.is in
    let P : Document → Type 0 = λ x. no_stack p x.nodes ≡ None in
    subst P c.doc.view_is (stack_is_there p t c.in-Some.node.now z c.doc.invariant.marks e (subst IsGroup (sym c.in-Group.is) tt))
