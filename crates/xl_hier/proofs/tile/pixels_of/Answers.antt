use Rattle.std.proofs.Common.{arith}
use Rattle.std.proofs.lemmas.Nat.{mul-le}
use Rattle.xl_hier.proofs.tile.pixels_of.Goals as goal

pub returns-clause-few : goal.returns-clause-few
returns-clause-few c =
    mul-le c.min-across.result c.min-down.result 64 64 (omega (arith, c.min-across.ensures)) (omega (arith, c.min-down.ensures))
