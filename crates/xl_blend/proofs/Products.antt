-- Products in parts of 255, by fewer multiplications.
use Rattle.std.proofs.Common.{◌≡◌, ℕ, ◌+◌, ◌-◌, ◌*◌, ◌/◌, ◌≤◌, refl, arith}
use Rattle.std.proofs.Math.Nat.{mul-le-mul_left, mul-le-mul_right}
use Rattle.spec_document.specs.Blend.{mul, screen}

-- the products of two bytes and of what they lack
lacking : (i j m k : ℕ) → i + j ≡ 255 → m + k ≡ 255 → j * k + 255 * (i + m) ≡ 65025 + i * m
lacking i j m k ij mk =
    let square : (i + j) * (m + k) ≡ 65025 = rw (ij, mk) refl in
    let first : i * (m + k) ≡ i * 255 = rw mk refl in
    let second : m * (i + j) ≡ m * 255 = rw ij refl in
    omega (arith, square, first, second)

screen_of : (i m p q : ℕ) → q + 255 * (i + m) ≡ 65025 + p → p ≤ 255 * i → i + m - (2 * p + 255) / 510 ≡ 255 - (2 * q + 255) / 510
screen_of i m p q is small = omega (arith, is, small)

screen_at : (i j m k : ℕ) → i + j ≡ 255 → m + k ≡ 255 → i + m - mul i m ≡ 255 - mul j k
screen_at i j m k ij mk =
    let small : i * m ≤ i * 255 = mul-le-mul_left i (omega arith) in
    let is : j * k + 255 * (i + m) ≡ 65025 + i * m = lacking i j m k ij mk in
    let at : i + m - (2 * (i * m) + 255) / 510 ≡ 255 - (2 * (j * k) + 255) / 510 =
    screen_of i m (i * m) (j * k) is (omega (arith, small)) in
    omega (arith, at)

pub screen_by_product : (i m : ℕ) → i ≤ 255 → m ≤ 255 → i + m - mul i m ≡ screen i m
screen_by_product i m i_small m_small = screen_at i (255 - i) m (255 - m) (omega arith) (omega arith)

rest_of : (p q r : ℕ) → q + r ≡ 255 * p → p - (2 * q + 255) / 510 ≡ (2 * r + 255) / 510
rest_of p q r is = omega (arith, is)

rest_at : (i j p : ℕ) → i + j ≡ 255 → p - mul i p ≡ mul j p
rest_at i j p ij =
    let whole : (i + j) * p ≡ 255 * p = rw ij refl in
    let is : i * p + j * p ≡ 255 * p = omega (arith, whole) in
    let at : p - (2 * (i * p) + 255) / 510 ≡ (2 * (j * p) + 255) / 510 = rest_of p (i * p) (j * p) is in
    omega (arith, at)

-- what a part leaves is the part of the rest
pub rest_of_product : (i p : ℕ) → i ≤ 255 → p - mul i p ≡ mul (255 - i) p
rest_of_product i p small = rest_at i (255 - i) p (omega arith)

-- twice a product, by shifts
twice : (p : ℕ) → p ≤ 65025 → (2 * p + 128 + (2 * p + 128) / 256 + (2 * p + 128) / 65536) / 256 ≡ (4 * p + 255) / 510
twice p small = omega (arith, small)

pub double_by_shifts : (a b : ℕ) → a ≤ 255 → b ≤ 255
    → (2 * a * b + 128 + (2 * a * b + 128) / 256 + (2 * a * b + 128) / 65536) / 256 ≡ mul (2 * a) b
double_by_shifts a b a_small b_small =
    let small : a * b ≤ 255 * b = mul-le-mul_right b a_small in
    let is : (2 * (a * b) + 128 + (2 * (a * b) + 128) / 256 + (2 * (a * b) + 128) / 65536) / 256 ≡ (4 * (a * b) + 255) / 510 =
    twice (a * b) (omega (arith, small)) in
    omega (arith, is)

pub double_part : (a b : ℕ) → a ≤ 255 → mul (2 * a) b ≤ 2 * b
double_part a b a_small = omega (arith, mul-le-mul_right b a_small)

overlay_at : (i j x : ℕ) → i + j ≡ 255 → x ≤ 2 * j → i * (i + x) ≤ 65025
overlay_at i j x ij small =
    let square : (i + j) * (i + j) ≡ 65025 = rw ij refl in
    let most : i * (i + x) ≤ i * (i + 2 * j) = mul-le-mul_left i (omega arith) in
    omega (arith, square, most)

-- the outer product of an overlay is at most that of two bytes
pub overlay_fits : (i x : ℕ) → i ≤ 255 → x ≤ 2 * (255 - i) → i * (i + x) ≤ 65025
overlay_fits i x i_small small = overlay_at i (255 - i) x (omega arith) small

rounded : (n : ℕ) → n ≤ 65025 → (n + 128 + (n + 128) / 256) / 256 ≡ (2 * n + 255) / 510
rounded n small = omega arith

pub small_by_shifts : (a b : ℕ) → a * b ≤ 65025 → (a * b + 128 + (a * b + 128) / 256) / 256 ≡ mul a b
small_by_shifts a b small =
    let is : (a * b + 128 + (a * b + 128) / 256) / 256 ≡ (2 * (a * b) + 255) / 510 = rounded (a * b) small in
    omega (arith, is)
