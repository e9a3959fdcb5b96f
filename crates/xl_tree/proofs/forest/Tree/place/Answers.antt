use Rattle.std.proofs.Common.{◌∙◌, ap}
use Rattle.xl_tree.specs.Flat.{flat}
use Rattle.xl_tree.proofs.Indexed.{place_is}
use Rattle.xl_tree.proofs.forest.Tree.place.Goals as goal

pub returns : goal.returns
returns g c =
    c.place.ensures
    ∙ (c.self.invariant.indexed c.args.id.0
    ∙ place_is c.args.id.0 _ c.args.self.now (c.self.invariant.siblings.flat_is ∙ ap (flat 0) c.self.view_is))
