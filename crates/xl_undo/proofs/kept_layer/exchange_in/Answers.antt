-- The node that is lent is the layer's.
use Rattle.std.proofs.Common.{◌≡◌, sym, ap, subst}
use Rattle.spec_document.specs.Document.{Layer}
use Rattle.spec_document.specs.Forest.{find, a_leaf}
use Rattle.xl_doc.specs.declared.node.Node.{Node}
use Rattle.xl_doc.specs.Nodes.{nodes_of, layer_of, IsLeaf}
use Rattle.xl_checks.proofs.Seen.{IsLeafAt}
use Rattle.xl_paint.proofs.NodesWritten.{layer_written, marks-with_node-leaf}
use Rattle.xl_paint.proofs.Lent.{lent, not_lent}
use Rattle.xl_undo.proofs.Kept.{node_there, layer_at}
use Rattle.xl_undo.proofs.kept_layer.exchange_in.Goals as goal

pub unreachable-requires : goal.unreachable-requires
unreachable-requires c =
    node_there c.args.id.0 c.args.tree.now c.requires.marks c.requires.layer
    (not_lent c.find_mut.result _ c.find_mut.ensures.value c.in_default.is)

pub returns-clause-tree : goal.returns-clause-tree
returns-clause-tree c =
    let at : IsLeafAt c.args.id.0 c.in-Some.handle.now c.args.tree.now =
    layer_at c.args.id.0 c.args.tree.now c.in-Some.handle.now c.requires.marks c.requires.layer
    (lent c.find_mut.result _ c.in-Some.handle c.find_mut.ensures.value c.in-Some.is) in
    layer_written c.args.id.0 c.in-Some.handle.now c.swap.new.x c.args.tree.now (λ (l : Layer). layer_of c.args.node.now)
    c.requires.ids at (ap layer_of c.swap.ensures.x_after)

pub returns-clause-marks : goal.returns-clause-marks
returns-clause-marks c =
    let at : IsLeafAt c.args.id.0 c.in-Some.handle.now c.args.tree.now =
    layer_at c.args.id.0 c.args.tree.now c.in-Some.handle.now c.requires.marks c.requires.layer
    (lent c.find_mut.result _ c.in-Some.handle c.find_mut.ensures.value c.in-Some.is) in
    marks-with_node-leaf c.args.id.0 c.in-Some.handle.now c.swap.new.x c.args.tree.now c.requires.ids c.requires.marks at
    (subst (λ (n : Node). IsLeaf n.body) (sym c.swap.ensures.x_after) c.requires.leaf)

pub returns-clause-leaf : goal.returns-clause-leaf
returns-clause-leaf c =
    let at : IsLeafAt c.args.id.0 c.in-Some.handle.now c.args.tree.now =
    layer_at c.args.id.0 c.args.tree.now c.in-Some.handle.now c.requires.marks c.requires.layer
    (lent c.find_mut.result _ c.in-Some.handle c.find_mut.ensures.value c.in-Some.is) in
    subst (λ (n : Node). IsLeaf n.body) (sym c.swap.ensures.y_after) at.leaf

pub returns-clause-found : goal.returns-clause-found
returns-clause-found c =
    let at : IsLeafAt c.args.id.0 c.in-Some.handle.now c.args.tree.now =
    layer_at c.args.id.0 c.args.tree.now c.in-Some.handle.now c.requires.marks c.requires.layer
    (lent c.find_mut.result _ c.in-Some.handle c.find_mut.ensures.value c.in-Some.is) in
    subst (λ (n : Node). find c.args.id.0 (nodes_of c.args.tree.now) ≡ a_leaf (layer_of n)) (sym c.swap.ensures.y_after) at.seen
