-- What the tree answers is said of the document's nodes.
use Rattle.std.proofs.Common.{◌≡◌, sym, ◌∙◌, ap, Some, None}
use Rattle.std.specs.Option.{option_copied}
use Rattle.spec_document.specs.Forest.{find}
use Rattle.xl_tree.specs.Reads.{node_of}
use Rattle.xl_checks.proofs.LayerFound.{absent_refused, group_refused, leaf_found}
use Rattle.xl_checks.proofs.checks.layer_at.Goals as goal

pub returns-in_default-clause-refused : goal.returns-in_default-clause-refused
returns-in_default-clause-refused c =
    let e : node_of (find c.args.id.0 c.doc.inside.tree) ≡ None = sym c.find.ensures ∙ ap option_copied c.in_default.is in
    rw (← c.doc.view_is) (absent_refused c.args.id.0 c.doc.inside.tree c.doc.invariant.marks e)

pub returns-in-Leaf-clause-found : goal.returns-in-Leaf-clause-found
returns-in-Leaf-clause-found c =
    let e : node_of (find c.args.id.0 c.doc.inside.tree) ≡ Some c.in-Some.node.now = sym c.find.ensures
    ∙ ap option_copied c.in-Some.is in
    rw (← c.doc.view_is) (leaf_found c.args.id.0 c.doc.inside.tree c.in-Some.node.now c.in-Leaf.layer c.doc.invariant.marks e
    c.in-Leaf.is)

pub returns-in-Group-clause-refused : goal.returns-in-Group-clause-refused
returns-in-Group-clause-refused c =
    let e : node_of (find c.args.id.0 c.doc.inside.tree) ≡ Some c.in-Some.node.now = sym c.find.ensures
    ∙ ap option_copied c.in-Some.is in
    rw (← c.doc.view_is) (group_refused c.args.id.0 c.doc.inside.tree c.in-Some.node.now c.doc.invariant.marks e c.in-Group.is)
