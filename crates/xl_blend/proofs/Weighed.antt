-- Sums of two products of bytes.
use Rattle.std.proofs.Common.{◌≡◌, ℕ, ◌+◌, ◌-◌, ◌*◌, ◌/◌, ◌≤◌, arith}
use Rattle.std.proofs.Math.Nat.{mul-le-mul_right}

-- the rounded quotient by 255, by two shifts
pub rounded : (n : ℕ) → n ≤ 65025 → (n + 128 + (n + 128) / 256) / 256 ≡ (2 * n + 255) / 510
rounded n small = omega arith

pub weighed : (part a b : ℕ) → part ≤ 255 → a ≤ 255 → b ≤ 255 → a * part + b * (255 - part) ≤ 65025
weighed part a b part_small a_small b_small =
    omega (arith, mul-le-mul_right part a_small, mul-le-mul_right (255 - part) b_small)
