-- The stack is that of the document's tree.
use Rattle.std.proofs.Common.{sym, ◌∙◌, ap}
use Rattle.std.specs.Prelude.{option_map}
use Rattle.spec_document.specs.Document.{Document}
use Rattle.xl_doc.specs.Nodes.{nodes_of}
use Rattle.xl_edit.specs.Children.{is_child}
use Rattle.xl_edit.proofs.NodesRestacked.{child_seen}
use Rattle.xl_edit.proofs.restacking.has_child.Goals as goal

pub returns-in-None : goal.returns-in-None
returns-in-None c =
    ap (λ o. is_child c.args.id.0 (option_map nodes_of o)) (sym c.in-None.is)
    ∙ child_seen c.args.id.0 c.args.stack.0 c.args.doc.now c.doc.inside.tree c.stack.result
    (ap (λ (x : Document). x.nodes) c.doc.view_is) c.stack.ensures.value

pub returns-in-Some : goal.returns-in-Some
returns-in-Some c =
    c.is_at_top.ensures
    ∙ (ap (λ o. is_child c.args.id.0 (option_map nodes_of o)) (sym c.in-Some.is)
    ∙ child_seen c.args.id.0 c.args.stack.0 c.args.doc.now c.doc.inside.tree c.stack.result
    (ap (λ (x : Document). x.nodes) c.doc.view_is) c.stack.ensures.value)
