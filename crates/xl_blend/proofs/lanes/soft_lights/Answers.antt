use Rattle.std.proofs.Common.{◌∙◌, sym}
use Rattle.xl_blend.proofs.LaneWise.{both, first, agreed}
use Rattle.xl_blend.proofs.LaneArithmetic.{soft_light16}
use Rattle.xl_blend.proofs.lanes.soft_lights.Goals as goal

pub returns : goal.returns
returns c =
    let i = c.args.i in
    let m = c.args.m in
    let below = first i m (c.fits-i.0 ∙ sym c.fits-m.0) in
    let part = c.products-part.ensures.value in
    let inner = c.products.ensures.value ∙ both _ _ _ i m below part in
    let outer = c.products-2.ensures.value ∙ both _ _ _ i m below c.screens.ensures.value in
    both _ _ _ i m (both _ _ _ i m part inner) outer ∙ agreed _ _ _ i m c.requires.below.1 c.requires.above.1 soft_light16
