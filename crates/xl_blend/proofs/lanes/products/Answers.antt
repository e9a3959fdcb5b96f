use Rattle.std.proofs.Common.{◌∙◌, sym, arith}
use Rattle.spec_document.specs.Blend.{mul}
use Rattle.spec_document.proofs.OverLemmas.{mul-le_right}
use Rattle.xl_blend.proofs.LaneWise.{mapped, both, first, second, splat, agreed, small}
use Rattle.xl_blend.proofs.LaneArithmetic.{part16, product16}
use Rattle.xl_blend.proofs.lanes.products.Goals as goal

pub returns-clause-value : goal.returns-clause-value
returns-clause-value c =
    let a = c.args.a in
    let b = c.args.b in
    let same = c.requires.a.0 ∙ sym c.requires.b.0 in
    let product = both _ _ _ a b (first a b same) (second a b same) in
    let sum = both _ _ _ a b product (splat 16 128 a b c.requires.a.0 c.requires.b.0) in
    mapped part16 _ a b c.divided_by_255.ensures sum ∙ agreed _ _ _ a b c.requires.a.1 c.requires.b.1 product16

pub returns-clause-bytes : goal.returns-clause-bytes
returns-clause-bytes c =
    let value = returns-clause-value c in
    rw value (small mul c.args.a c.args.b c.requires.a c.requires.b
    (λ x y x_small y_small. omega (arith, mul-le_right x y x_small)))
