-- A quotient by a product with a reciprocal that was rounded up.
use Rattle.std.proofs.Common.{◌≡◌, ℕ, zero, suc, ◌+◌, ◌-◌, ◌*◌, ◌/◌, ◌%◌, ◌≤◌, ◌<◌, min, arith, sym, ap, ◌∙◌, inl, inr}
use Rattle.std.proofs.Common.{mul_comm, mul_assoc}
use Rattle.std.proofs.Math.Nat.{add-mul, mul-add, mul-le-mul_right, div-mul-le_self, lt-div-mul-add, div-lt_iff_lt-mul}
use Rattle.std.proofs.Math.Nat.{le-div_iff_mul-le}
use Rattle.std.proofs.lemmas.Bool.{cases_lt}
use Rattle.xl_blend.specs.Words.{reciprocal_of}
use Rattle.std.proofs.lemmas.Nat.{div-mul-add, div-add-mod'}

-- where x = q d + r and d m = 2 ^ 24 + e
split : (q d r m e x : ℕ) → x ≡ q * d + r → d * m ≡ 16777216 + e → x * m ≡ q * 16777216 + (q * e + r * m)
split q d r m e x x_is m_is =
    rw (x_is, add-mul (q * d) r m, mul_assoc q d m, m_is, mul-add q 16777216 e) (omega arith)

-- what is left over is no whole part more
left_over : (q d r m e : ℕ) → q ≤ 255 → r < d → d ≤ 256 → d * m ≡ 16777216 + e → e < d → q * e + r * m < 16777216
left_over q d r m e q_small r_small d_small m_is e_small =
    let first : q * e ≤ 255 * e = mul-le-mul_right e q_small in
    let second : r * m + m ≤ d * m = omega (arith, add-mul r 1 m, mul-le-mul_right {m = r + 1} {n = d} m (omega arith)) in
    let third : d * m ≤ 256 * m = mul-le-mul_right m d_small in
    omega arith

few : (x d : ℕ) → 0 < d → 2 * x ≤ 511 * d → x / d ≤ 255
few x d some x_small =
    let below : x < 256 * d = omega arith in
    let lt : x / d < 256 = (div-lt_iff_lt-mul some).1 below in
    omega arith

-- what a reciprocal that was rounded up is short of, and over
pub reciprocal_bounds : (d m : ℕ) → 0 < d → m ≡ reciprocal_of d → (d * m ≤ 16777216 + (d - 1)) × (16777216 ≤ d * m)
reciprocal_bounds d m some m_is =
    let down : m * d ≤ 16777216 + (d - 1) = rw m_is (div-mul-le_self (16777216 + (d - 1)) d) in
    let up : 16777216 + (d - 1) < m * d + d = rw m_is (lt-div-mul-add some) in
    (omega (arith, mul_comm d m), omega (arith, mul_comm d m))

by_some : (x d m : ℕ) → 0 < d → d ≤ 256 → 2 * x ≤ 511 * d → m ≡ reciprocal_of d → x * m / 16777216 ≡ x / d
by_some x d m some d_small x_small m_is =
    let bounds = reciprocal_bounds d m some m_is in
    let whole : d * m ≡ 16777216 + (d * m - 16777216) = omega arith in
    let parts : x ≡ x / d * d + x % d = sym (div-add-mod' x d) in
    rw (split (x / d) d (x % d) m (d * m - 16777216) x parts whole)
    (div-mul-add (x / d) 16777216 (x / d * (d * m - 16777216) + x % d * m)
    (left_over (x / d) d (x % d) m (d * m - 16777216) (few x d some x_small) (omega arith) d_small whole (omega arith)))

by_none : (x m : ℕ) → 2 * x ≤ 0 → x * m / 16777216 ≡ x / 0
by_none x m x_small =
    let none : x ≡ 0 = omega arith in
    rw none (omega arith)

-- the quotient by any byte, where that by 0 is 0
pub by_reciprocal : (x d m : ℕ) → d ≤ 255 → 2 * x ≤ 511 * d → m ≡ reciprocal_of d → x * m / 16777216 ≡ x / d
by_reciprocal x zero m d_small x_small m_is = by_none x m (omega arith)
by_reciprocal x (suc d) m d_small x_small m_is = by_some x (suc d) m (omega arith) (omega arith) x_small m_is

some_fits : (x d m : ℕ) → 0 < d → d ≤ 255 → 2 * x ≤ 511 * d → m ≡ reciprocal_of d → x * m < 4294967296
some_fits x d m some d_small x_small m_is =
    let bounds = reciprocal_bounds d m some m_is in
    let twice : 2 * x * m ≤ 511 * d * m = mul-le-mul_right m x_small in
    omega (arith, mul_assoc 2 x m, mul_assoc 511 d m)

none_fits : (x m : ℕ) → 2 * x ≤ 0 → x * m < 4294967296
none_fits x m x_small =
    let none : x ≡ 0 = omega arith in
    rw none (omega arith)

-- the product with the reciprocal fits 32 bits
pub product_fits : (x d m : ℕ) → d ≤ 255 → 2 * x ≤ 511 * d → m ≡ reciprocal_of d → x * m < 4294967296
product_fits x zero m d_small x_small m_is = none_fits x m (omega arith)
product_fits x (suc d) m d_small x_small m_is = some_fits x (suc d) m (omega arith) d_small x_small m_is

-- ---- the quotient of 256 times a byte, cut to a byte
abbrev scaled : (n m : ℕ) → ℕ
scaled n m = n * m / 65536

scale : (n m : ℕ) → scaled n m ≡ 256 * n * m / 16777216
scale n m =
    let parts : 256 * n * m ≡ 256 * (n * m) = mul_assoc 256 n m in
    rw parts (omega arith)

scaled_few : (n d m : ℕ) → n < d → d ≤ 256 → m ≡ reciprocal_of d → scaled n m ≡ 256 * n / d
scaled_few n d m less d_small m_is = scale n m ∙ by_some (256 * n) d m (omega arith) d_small (omega arith) m_is

cut : (x : ℕ) → 255 ≤ x → min 255 x ≡ 255
cut x big = omega arith

scaled_many : (n d m : ℕ) → 0 < d → d ≤ n → m ≡ reciprocal_of d → min 255 (scaled n m) ≡ min 255 (256 * n / d)
scaled_many n d m some more m_is =
    let bounds = reciprocal_bounds d m some m_is in
    let product : d * m ≤ n * m = mul-le-mul_right m more in
    let ours : 255 ≤ scaled n m = omega arith in
    let long : 256 * d ≤ 256 * n = omega arith in
    let theirs : 256 ≤ 256 * n / d = (le-div_iff_mul-le some).1 long in
    cut (scaled n m) ours ∙ sym (cut (256 * n / d) (omega arith))

pub scaled_by_reciprocal : (n d m : ℕ) → 0 < d → d ≤ 256 → m ≡ reciprocal_of d → min 255 (n * m / 65536) ≡ min 255 (256 * n / d)
scaled_by_reciprocal n d m some d_small m_is =
    elim (cases_lt n d) [
      | inl less ↦ ap (λ q. min 255 q) (scaled_few n d m less d_small m_is)
      | inr more ↦ scaled_many n d m some more m_is
    ]

-- and the product fits 32 bits
pub scaled_fits : (n d m : ℕ) → n ≤ 255 → 0 < d → m ≡ reciprocal_of d → n * m < 4294967296
scaled_fits n d m n_small some m_is =
    let less : (16777216 + (d - 1)) / d < 16777217 = (div-lt_iff_lt-mul some).1 (omega arith) in
    let product : n * m ≤ 255 * m = mul-le-mul_right m n_small in
    omega (arith, less, m_is)
