-- A stack of the document has as many children as that of its tree.
use Rattle.std.proofs.Common.{sym, ◌∙◌, ap}
use Rattle.std.specs.Prelude.{unwrap_or}
use Rattle.spec_document.specs.Document.{Document}
use Rattle.spec_edit.specs.Refusal.{children}
use Rattle.xl_checks.proofs.NodesMoved.{children-nodes_of}
use Rattle.xl_checks.proofs.rules.child_count.Goals as goal

pub returns : goal.returns
returns c =
    c.unwrap_or.ensures
    ∙ (ap (λ o. unwrap_or o 0) (c.children.ensures ∙ sym (children-nodes_of c.args.stack.0 c.doc.inside.tree))
    ∙ ap (λ (x : Document). children x.nodes c.args.stack.0) c.doc.view_is)
