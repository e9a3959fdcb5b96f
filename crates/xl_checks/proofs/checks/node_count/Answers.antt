use Rattle.std.proofs.Common.{sym, ◌∙◌, ap}
use Rattle.spec_document.specs.Forest.{size}
use Rattle.spec_document.specs.Document.{Document}
use Rattle.xl_checks.proofs.NodesMoved.{size-nodes_of}
use Rattle.xl_checks.proofs.checks.node_count.Goals as goal

pub returns-clause-value : goal.returns-clause-value
returns-clause-value c =
    c.len.ensures.len ∙ (sym (size-nodes_of c.doc.inside.tree) ∙ ap (λ (x : Document). size x.nodes) c.doc.view_is)
