use Rattle.std.proofs.Common.{◌∙◌, sym, arith}
use Rattle.spec_document.specs.Blend.{screen}
use Rattle.xl_blend.proofs.LaneWise.{both, first, second, agreed, small}
use Rattle.xl_blend.proofs.LaneArithmetic.{screen16}
use Rattle.xl_blend.proofs.lanes.screens.Goals as goal

pub returns-clause-value : goal.returns-clause-value
returns-clause-value c =
    let same = c.fits-i.0 ∙ sym c.fits-m.0 in
    let sum = both _ _ _ c.args.i c.args.m (first c.args.i c.args.m same) (second c.args.i c.args.m same) in
    both _ _ _ c.args.i c.args.m sum c.products.ensures.value
    ∙ agreed _ _ _ c.args.i c.args.m c.requires.below.1 c.requires.above.1 screen16

pub returns-clause-bytes : goal.returns-clause-bytes
returns-clause-bytes c =
    let value = returns-clause-value c in
    rw value (small screen c.args.i c.args.m c.requires.below c.requires.above (λ x y x_small y_small. omega arith))
