use Rattle.std.proofs.Common.{◌∙◌, sym}
use Rattle.xl_blend.proofs.LaneWise.{both, chosen, first, second, agreed}
use Rattle.xl_blend.proofs.LaneArithmetic.{less16}
use Rattle.xl_blend.proofs.lanes.less.Goals as goal

pub returns : goal.returns
returns c =
    let same = c.fits-a.0 ∙ sym c.fits-b.0 in
    let a = first c.args.a c.args.b same in
    let b = second c.args.a c.args.b same in
    both _ _ _ c.args.a c.args.b (chosen _ _ _ _ c.args.a c.args.b a b b a) b
    ∙ agreed _ _ _ c.args.a c.args.b c.fits-a.1 c.fits-b.1 less16
