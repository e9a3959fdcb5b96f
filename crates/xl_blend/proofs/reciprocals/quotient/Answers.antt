use Rattle.xl_blend.proofs.Quotients.{by_reciprocal, product_fits}
use Rattle.xl_blend.proofs.reciprocals.quotient.Goals as goal

pub overflow_mul-result : goal.overflow_mul-result
overflow_mul-result c =
    record { fits = product_fits c.args.dividend c.args.divisor c.args.reciprocal c.requires.small c.requires.within c.requires.is }

pub returns : goal.returns
returns c =
    by_reciprocal c.args.dividend c.args.divisor c.args.reciprocal c.requires.small c.requires.within c.requires.is
