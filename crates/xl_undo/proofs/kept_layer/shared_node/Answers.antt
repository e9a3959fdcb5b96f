-- The node that is found is the layer's.
use Rattle.std.proofs.Common.{◌≡◌, sym, ◌∙◌, ap, subst}
use Rattle.std.specs.Option.{option_copied}
use Rattle.std.proofs.lemmas.Result.{IfOk-weaker}
use Rattle.spec_document.specs.Forest.{find, a_leaf}
use Rattle.xl_doc.specs.declared.node.Node.{Node}
use Rattle.xl_doc.specs.Nodes.{layer_of, nodes_of, IsLeaf}
use Rattle.xl_checks.proofs.Seen.{IsLeafAt}
use Rattle.xl_undo.proofs.Kept.{node_there, layer_at}
use Rattle.xl_undo.proofs.kept_layer.shared_node.Goals as goal

pub unreachable-requires : goal.unreachable-requires
unreachable-requires c =
    node_there c.args.id.0 c.args.tree.now c.requires.marks c.requires.layer (sym c.find.ensures ∙ ap option_copied c.in_default.is)

pub returns-clause-leaf : goal.returns-clause-leaf
returns-clause-leaf c =
    let at : IsLeafAt c.args.id.0 c.in-Some.node.now c.args.tree.now =
    layer_at c.args.id.0 c.args.tree.now c.in-Some.node.now c.requires.marks c.requires.layer
    (sym c.find.ensures ∙ ap option_copied c.in-Some.is) in
    IfOk-weaker c.new.result _ _ (λ h same. subst (λ (n : Node). IsLeaf n.body) (sym (same ∙ c.in_ok-copy.ensures)) at.leaf) c.new.ensures

pub returns-clause-found : goal.returns-clause-found
returns-clause-found c =
    let at : IsLeafAt c.args.id.0 c.in-Some.node.now c.args.tree.now =
    layer_at c.args.id.0 c.args.tree.now c.in-Some.node.now c.requires.marks c.requires.layer
    (sym c.find.ensures ∙ ap option_copied c.in-Some.is) in
    IfOk-weaker c.new.result _ _
    (λ h same. subst (λ (n : Node). find c.args.id.0 (nodes_of c.args.tree.now) ≡ a_leaf (layer_of n)) (sym (same
    ∙ c.in_ok-copy.ensures)) at.seen) c.new.ensures
