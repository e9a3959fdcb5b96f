use Rattle.std.proofs.Common.{arith}
use Rattle.xl_blend.proofs.Quotients.{scaled_by_reciprocal, scaled_fits}
use Rattle.xl_blend.proofs.reciprocals.scaled_quotient.Goals as goal

pub overflow_mul-byte : goal.overflow_mul-byte
overflow_mul-byte c = record {
  fits =
      scaled_fits c.args.byte c.args.divisor c.reciprocal.result c.requires.byte c.requires.some c.reciprocal.ensures;
}

pub returns : goal.returns
returns c = omega (
  arith,
  scaled_by_reciprocal c.args.byte c.args.divisor c.reciprocal.result c.requires.some c.requires.small
      c.reciprocal.ensures,
)
