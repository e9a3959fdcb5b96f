-- Places near zero are what their bits say.
use Rattle.std.proofs.Common.{◌≡◌, ℤ, to_z, of_z, w32, arith}
use Rattle.std.proofs.lemmas.Int.{ints}
use Rattle.xl_grid.specs.Small.{IsNear, IsEnd}

pub near_is : (z : ℤ) → IsNear z → to_z w32 (of_z w32 z) ≡ z
near_is z h = omega (arith, ints, h.0, h.1)

pub end_is : (z : ℤ) → IsEnd z → to_z w32 (of_z w32 z) ≡ z
end_is z h = omega (arith, ints, h.0, h.1)
