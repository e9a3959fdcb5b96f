-- The node that is put in is the layer that the edit makes.
use Rattle.std.proofs.Common.{refl, sym, ◌∙◌, ap, subst}
use Rattle.spec_document.specs.Changes.{put_into}
use Rattle.spec_document.specs.Document.{Nodes}
use Rattle.spec_edit.specs.Edit as edits
use Rattle.spec_edit.specs.Effect.{layer_made}
use Rattle.xl_edit.specs.Kept.{KeepsLimits}
use Rattle.xl_edit.proofs.NewNodes.{limits_with_node, next_is_new, node_made, one_layer}
use Rattle.xl_edit.proofs.nodes.new_layer.Goals as goal

pub put_node-requires-clause-new : goal.put_node-requires-clause-new
put_node-requires-clause-new c = next_is_new c.args.doc.now c.args.next_id.now _ c.requires.next

pub put_node-requires-clause-limits : goal.put_node-requires-clause-limits
put_node-requires-clause-limits c =
    let a = c.args in
    let d = c.args.doc.now in
    let n = c.args.next_id.now in
    let allowed = c.in_ok-check_new_layer.ensures.allowed in
    let is = c.in_ok-node.ensures.layer in
    let P : Nodes → Type 0 = λ b. KeepsLimits d (record d { nodes = put_into a.parent.0 a.place b d.nodes }) in
    subst P (sym (one_layer n c.in_ok-node.node (layer_made a.shape.x a.shape.y a.shape.w a.shape.h a.shape.kind a.name.now) c.in_ok-node.ensures.body is))
    (limits_with_node d n (edits.new_layer a.parent.0 a.place a.shape.x a.shape.y a.shape.w a.shape.h a.shape.kind a.name.now) (
      c.requires.width,
      c.requires.height,
      c.requires.bytes,
    ) c.requires.next refl allowed)

pub returns : goal.returns
returns c = λ table.
    let a = c.args in
    let d = c.args.doc.now in
    let n = c.args.next_id.now in
    let allowed = c.in_ok-check_new_layer.ensures.allowed in
    let is = c.in_ok-node.ensures.layer in
    let one = one_layer n c.in_ok-node.node (layer_made a.shape.x a.shape.y a.shape.w a.shape.h a.shape.kind a.name.now) c.in_ok-node.ensures.body is in
    node_made d c.put_node.new.doc n table (edits.new_layer a.parent.0 a.place a.shape.x a.shape.y a.shape.w a.shape.h a.shape.kind a.name.now) refl
    allowed
    (sym (c.put_node.ensures ∙ ap (λ b. record d { nodes = put_into a.parent.0 a.place b d.nodes }) one))
