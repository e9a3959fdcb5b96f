-- The groups above the node are the same in the document as in its tree.
use Rattle.std.proofs.Common.{◌∙◌, ap, refl, sym}
use Rattle.std.specs.List.{list_any}
use Rattle.spec_document.specs.Document.{Document}
use Rattle.spec_edit.specs.Refusal.{stands_in}
use Rattle.xl_tree.proofs.Restacked.{stands_above}
use Rattle.xl_edit.proofs.NodesRestacked.{stands_seen}
use Rattle.xl_edit.proofs.restacking.stands_in.Goals as goal

pub returns-else-node-other : goal.returns-else-node-other
returns-else-node-other c =
    let t = c.doc.inside.tree in
    let n = c.args.node.0 in
    let o = c.args.other.0 in
    c.contains.ensures.value
    ∙ (ap (list_any _) c.as_slice.ensures.ids
    ∙ (stands_above t n o c.ancestors-above.result _ c.if-node-other.false c.ancestors-above.ensures (λ y. refl)
    ∙ (sym (stands_seen n o t) ∙ ap (λ (x : Document). stands_in x.nodes n o) c.doc.view_is)))
