-- What the tree answers is said of the document's nodes.
use Rattle.std.proofs.Common.{◌≡◌, sym, ◌∙◌, ap, Some, None}
use Rattle.std.specs.Option.{option_copied}
use Rattle.spec_document.specs.Forest.{find}
use Rattle.spec_edit.specs.Refusal.{no_node_found}
use Rattle.xl_tree.specs.Reads.{node_of}
use Rattle.xl_checks.proofs.Seen.{no_node_seen, node_seen}
use Rattle.xl_checks.proofs.rules.check_node.Goals as goal

pub returns-in-None-clause-refused : goal.returns-in-None-clause-refused
returns-in-None-clause-refused c =
    let e : node_of (find c.args.id.0 c.doc.inside.tree) ≡ None = sym c.find.ensures ∙ ap option_copied c.in-None.is in
    rw (← c.doc.view_is) (ap (no_node_found c.args.id.0) (no_node_seen c.args.id.0 c.doc.inside.tree c.doc.invariant.marks e))

pub returns-in-Some-clause-there : goal.returns-in-Some-clause-there
returns-in-Some-clause-there c =
    let e : node_of (find c.args.id.0 c.doc.inside.tree) ≡ Some c.in-Some.field-0.now = sym c.find.ensures
    ∙ ap option_copied c.in-Some.is in
    rw (← c.doc.view_is) (node_seen c.args.id.0 c.doc.inside.tree c.in-Some.field-0.now c.doc.invariant.marks e)
