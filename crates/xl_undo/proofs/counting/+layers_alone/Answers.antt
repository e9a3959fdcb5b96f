-- The layer on top and all below it.
use Rattle.std.specs.Option.{option_copied}
use Rattle.spec_document.specs.Forest.{find}
use Rattle.spec_undo.specs.Changed.{count_if_alone}
use Rattle.xl_doc.specs.Nodes.{layer_of, nodes_of}
use Rattle.xl_undo.proofs.Found.{seen, top_is, leaf_counted}
use Rattle.xl_undo.proofs.counting.+layers_alone.Goals as goal

pub returns-in-Leaf : goal.returns-in-Leaf
returns-in-Leaf t c =
    let other = c.args.other.now in
    let id = c.in-Leaf.id.0 in
    let node = c.in-Leaf.node.now in
    let top = top_is c.args.nodes c.in-Leaf.under id node c.requires.leaves c.in-Leaf.ensures.parts in
    let there = seen id other (option_copied c.find.result) c.requires.agree c.find.ensures in
    leaf_counted count_if_alone other c.args.nodes c.in-Leaf.under id node c.body_alone.result c.layers_alone.result c.sum.result
    c.in-Leaf.ensures.parts (c.body_alone.ensures (layer_of node) (find id (nodes_of other)) top there) c.layers_alone.ensures
    c.sum.ensures
