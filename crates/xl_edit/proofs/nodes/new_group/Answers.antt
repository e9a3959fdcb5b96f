-- The node that is put in is the group that the edit makes.
use Rattle.std.proofs.Common.{refl, sym, ◌∙◌, ap, subst}
use Rattle.spec_document.specs.Changes.{put_into}
use Rattle.spec_document.specs.Document.{Nodes}
use Rattle.spec_edit.specs.Edit as edits
use Rattle.spec_edit.specs.Effect.{group_made}
use Rattle.xl_edit.specs.Kept.{KeepsLimits}
use Rattle.xl_edit.proofs.NewNodes.{limits_with_node, next_is_new, node_made, one_group}
use Rattle.xl_edit.proofs.nodes.new_group.Goals as goal

pub put_node-requires-clause-new : goal.put_node-requires-clause-new
put_node-requires-clause-new c = next_is_new c.args.doc.now c.args.next_id.now _ c.requires.next

pub put_node-requires-clause-limits : goal.put_node-requires-clause-limits
put_node-requires-clause-limits c =
    let a = c.args in
    let d = c.args.doc.now in
    let n = c.args.next_id.now in
    let P : Nodes → Type 0 = λ b. KeepsLimits d (record d { nodes = put_into a.parent.0 a.place b d.nodes }) in
    subst P (sym (one_group n c.in_ok-node.node (group_made a.name.now) c.in_ok-node.ensures.body c.in_ok-node.ensures.group))
    (limits_with_node d n (edits.new_group a.parent.0 a.place a.name.now) c.requires.bytes c.requires.next refl
    c.in_ok-check_new_group.ensures.allowed)

pub returns : goal.returns
returns c = λ table.
    let a = c.args in
    let d = c.args.doc.now in
    let n = c.args.next_id.now in
    let one = one_group n c.in_ok-node.node (group_made a.name.now) c.in_ok-node.ensures.body c.in_ok-node.ensures.group in
    node_made d c.put_node.new.doc n table
    (edits.new_group a.parent.0 a.place a.name.now) refl c.in_ok-check_new_group.ensures.allowed
    (sym (c.put_node.ensures ∙ ap (λ b. record d { nodes = put_into a.parent.0 a.place b d.nodes }) one))
