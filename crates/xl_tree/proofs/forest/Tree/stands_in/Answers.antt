use Rattle.std.proofs.Common.{◌∙◌, ap, refl}
use Rattle.std.specs.List.{list_any}
use Rattle.xl_tree.proofs.Restacked.{stands_above}
use Rattle.xl_tree.proofs.forest.Tree.stands_in.Goals as goal

pub returns-else-node-other : goal.returns-else-node-other
returns-else-node-other g c =
    c.contains.ensures.value ∙ (ap (list_any _) c.as_slice.ensures.ids
    ∙ stands_above c.args.self.now c.args.node.0 c.args.other.0 c.ancestors-above.result _ c.if-node-other.false
    c.ancestors-above.ensures (λ y. refl))
