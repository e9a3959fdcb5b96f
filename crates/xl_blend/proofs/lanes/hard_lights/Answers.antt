use Rattle.std.proofs.Common.{◌≡◌, ℕ, ◌∙◌, sym}
use Rattle.std.specs.Simd.Lanes.{zip2}
use lib.ListN.{replicate}
use Rattle.xl_blend.proofs.LaneWise.{both, chosen, first as lower, second as upper, splat, agreed}
use Rattle.xl_blend.proofs.LaneArithmetic.{sub16, mul16, shifted16, hard_light16}
use Rattle.xl_blend.proofs.lanes.hard_lights.Goals as goal

pub returns : goal.returns
returns c =
    let i = c.args.i in
    let m = c.args.m in
    let same = c.fits-i.0 ∙ sym c.fits-m.0 in
    let below = lower i m same in
    let above = upper i m same in
    let number : (n : ℕ) → replicate 16 n ≡ zip2 (λ x y. n) i m = λ n. splat 16 n i m c.fits-i.0 c.fits-m.0 in
    let dark = both shifted16 _ _ i m (both mul16 _ _ i m below above) (number 7) in
    let first = both sub16 _ _ i m (number 255) below in
    let second = both sub16 _ _ i m (both sub16 _ _ i m (number 511) above) above in
    let light = both shifted16 _ _ i m (both mul16 _ _ i m first second) (number 8) in
    chosen _ _ _ _ i m (number 128) above (both sub16 _ _ i m (number 255) light) dark
    ∙ agreed _ _ _ i m c.requires.below.1 c.requires.above.1 hard_light16
