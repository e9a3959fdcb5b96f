use Rattle.std.proofs.Common.{◌≡◌, ℕ, length, ◌∙◌, sym, arith}
use Rattle.std.specs.Simd.Lanes.{zip2}
use Rattle.std.proofs.lemmas.Simd.{length-zip2}
use lib.ListN.{replicate}
use Rattle.spec_document.specs.Over.{mean}
use Rattle.spec_document.proofs.OverLemmas.{mean-is_byte}
use Rattle.xl_blend.proofs.LaneWise.{mapped, both, first, second, splat, agreed_three, small_three}
use Rattle.xl_blend.proofs.LaneArithmetic.{add16, sub16, mul16, part16, rest16, mixed16, mean16}
use Rattle.xl_blend.proofs.lanes.mixes.Goals as goal

pub returns-clause-value : goal.returns-clause-value
returns-clause-value c =
    let t = c.args.weights in
    let a = c.args.above in
    let b = c.args.below in
    let xs = zip2 mul16 a t in
    let ys = zip2 rest16 b t in
    let x_long : length xs ≡ 16 = length-zip2 mul16 a t (c.fits-above.0 ∙ sym c.fits-weights.0) ∙ c.fits-above.0 in
    let y_long : length ys ≡ 16 = length-zip2 rest16 b t (c.fits-below.0 ∙ sym c.fits-weights.0) ∙ c.fits-below.0 in
    let same = c.fits-below.0 ∙ sym c.fits-weights.0 in
    let opposite = both sub16 _ _ b t (splat 16 255 b t c.fits-below.0 c.fits-weights.0) (second b t same) in
    let lower = both mul16 _ _ b t (first b t same) opposite in
    let number : (n : ℕ) → replicate 16 n ≡ zip2 (λ x y. n) xs ys = λ n. splat 16 n xs ys x_long y_long in
    let x = first xs ys (x_long ∙ sym y_long) in
    let y = lower ∙ second xs ys (x_long ∙ sym y_long) in
    let sum = both add16 _ _ xs ys (both add16 _ _ xs ys x y) (number 128) in
    mapped part16 _ xs ys c.divided_by_255.ensures sum
    ∙ agreed_three mixed16 mul16 rest16 (mean 255) t a b c.requires.weights.1 c.requires.above.1 c.requires.below.1 mean16

pub returns-clause-bytes : goal.returns-clause-bytes
returns-clause-bytes c =
    let value = returns-clause-value c in
    rw value (small_three (mean 255) c.args.weights c.args.above c.args.below c.requires.weights c.requires.above
    c.requires.below (λ t x y t_small x_small y_small. mean-is_byte 255 t x y (omega arith) t_small x_small y_small))
