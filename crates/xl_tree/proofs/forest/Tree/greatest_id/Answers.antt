use Rattle.std.proofs.Common.{◌∙◌, ap, max}
use Rattle.std.specs.List.{fold}
use Rattle.xl_tree.specs.Ids.{ids_of}
use Rattle.xl_tree.proofs.Ids.{ids_are}
use Rattle.xl_tree.proofs.forest.Tree.greatest_id.Goals as goal

pub returns : goal.returns
returns g c =
    c.greatest.ensures
    ∙ (ap (λ es. fold max 0 (ids_of es)) c.as_slice.ensures.value
    ∙ ap (fold max 0) (ids_are 0 _ c.args.self.now c.self.invariant.siblings.flat_is c.self.view_is))
