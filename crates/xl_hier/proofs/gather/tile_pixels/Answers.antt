use Rattle.std.proofs.Common.{arith}
use Rattle.std.proofs.lemmas.Nat.{mul-le}
use Rattle.xl_hier.proofs.gather.tile_pixels.Goals as goal

pub returns-clause-few : goal.returns-clause-few
returns-clause-few c = mul-le c.span-across.result.1 c.span-down.result.1 64 64 (omega (arith, c.span-across.ensures.count))
    (omega (arith, c.span-down.ensures.count))
