use Rattle.std.proofs.Common.{◌∙◌, ap}
use Rattle.spec_listing.specs.Listing.{group_node}
use Rattle.xl_doc.specs.Nodes.{group_of}
use Rattle.xl_listing.proofs.NodesMade.{leaf_more, group_more}
use Rattle.xl_listing.proofs.document_line.+node_values.Goals as goal

pub loop-values-preserved-in_ok-push-in-Leaf : goal.loop-values-preserved-in_ok-push-in-Leaf
loop-values-preserved-in_ok-push-in-Leaf n c =
    leaf_more c.loop-values.values.items c.push.new.self.items c.in_ok-layer_value-in-Leaf.field-0 c.loop-values.rest c.args.nodes
    c.in-Leaf.under c.in-Leaf.id.0 c.in-Leaf.node.now
    c.loop-values.invariant c.in-Leaf.ensures.parts c.in-Leaf.ensures.falls c.in_ok-layer_value-in-Leaf.ensures
    c.in_ok-push-in-Leaf.ensures.items

pub loop-values-preserved : goal.loop-values-preserved
loop-values-preserved n c =
    group_more c.loop-values.values.items c.push-in-Group.new.self.items c.in_ok-group_value-in-Group.field-0 c.loop-values.rest
    c.args.nodes c.in-Group.children c.in-Group.under c.in-Group.id.0 c.in-Group.node.now
    c.loop-values.invariant c.in-Group.ensures.parts c.in-Group.ensures.falls
    (c.in_ok-group_value-in-Group.ensures ∙ ap (group_node c.in-Group.id.0 (group_of c.in-Group.node.now)) c.in_ok-inside-in-Group.ensures)
    c.in_ok-push-in-Group.ensures.items
