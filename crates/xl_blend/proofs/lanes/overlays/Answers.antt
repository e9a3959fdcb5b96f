use Rattle.std.proofs.Common.{◌≡◌, ℕ, ◌∙◌, sym}
use Rattle.std.specs.Simd.Lanes.{zip2}
use lib.ListN.{replicate}
use Rattle.xl_blend.proofs.LaneWise.{mapped, both, first, second, splat, agreed}
use Rattle.xl_blend.proofs.LaneArithmetic.{add16, sub16, mul16, shifted16, part16, overlay16}
use Rattle.xl_blend.proofs.lanes.overlays.Goals as goal

pub returns : goal.returns
returns c =
    let i = c.args.i in
    let m = c.args.m in
    let same = c.fits-i.0 ∙ sym c.fits-m.0 in
    let below = first i m same in
    let above = second i m same in
    let number : (n : ℕ) → replicate 16 n ≡ zip2 (λ x y. n) i m = λ n. splat 16 n i m c.fits-i.0 c.fits-m.0 in
    let half = both add16 _ _ i m (both mul16 _ _ i m above (both sub16 _ _ i m (number 255) below)) (number 64) in
    let top = both shifted16 _ _ i m half (number 7) in
    let highest = both shifted16 _ _ i m half (number 15) in
    let carry = both shifted16 _ _ i m (both add16 _ _ i m top highest) (number 1) in
    let double = both shifted16 _ _ i m (both add16 _ _ i m half carry) (number 7) in
    let product = both mul16 _ _ i m below (both add16 _ _ i m below double) in
    let sum = both add16 _ _ i m product (number 128) in
    mapped part16 _ i m c.divided_by_255.ensures sum ∙ agreed _ _ _ i m c.requires.below.1 c.requires.above.1 overlay16
