use Rattle.std.proofs.Common.{arith, ap}
use Rattle.spec_document.specs.Forest.{size}
use Rattle.xl_tree.proofs.Flat.{size-forest_of}
use Rattle.xl_tree.proofs.Own.{own_same}
use Rattle.xl_tree.proofs.forest.Tree.top.Goals as goal

pub returns-clause-few : goal.returns-clause-few
returns-clause-few g c =
    omega (arith, c.self.invariant.siblings.few, size-forest_of 0 _ c.self.invariant.siblings.flat_is, ap size c.self.view_is)

pub returns-clause-own : goal.returns-clause-own
returns-clause-own g c = own_same _ c.args.self.now c.self.view_is c.self.invariant.own
