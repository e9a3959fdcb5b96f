-- Sums and products of bytes in 16 bits.
use Rattle.std.proofs.Common.{◌≡◌, ℕ, ◌+◌, ◌-◌, ◌*◌, ◌/◌, ◌%◌, ◌^◌, ◌≤◌, ◌<◌, ◌∙◌, Bool, true, false, cond, min, max}
use Rattle.std.proofs.Common.{Fits, refl, arith}
use Rattle.std.proofs.Math.Nat.{mul-le-mul_right, mul-le-mul_left}
use Rattle.std.proofs.lemmas.Bool.{cond_both, ltb-true, ltb-false}
use lib.Dec.{ltb}
use mir.Syntax.{w16}
use Rattle.spec_document.specs.declared.Mode.TheVariants.{Overlay, HardLight, SoftLight, Difference, Addition}
use Rattle.spec_document.specs.declared.Mode.TheVariants.{GrainExtract, GrainMerge, Normal, Multiply, Screen}
use Rattle.spec_document.specs.declared.Mode.TheVariants.{Subtract, DarkenOnly, LightenOnly}
use Rattle.spec_document.specs.Blend.{mul, screen, blend}
use Rattle.spec_document.specs.Over.{mean}
use Rattle.spec_document.proofs.OverLemmas.{mul-le_left, mul-le_right}
use Rattle.xl_blend.proofs.Weighed.{weighed}
use Rattle.xl_blend.proofs.Products.{screen_by_product, rest_of_product, overlay_fits, double_part}

abbrev pub add16 : (a b : ℕ) → ℕ
add16 a b = (a + b) % 65536

abbrev pub sub16 : (a b : ℕ) → ℕ
sub16 a b = (a + (65536 - b)) % 65536

abbrev pub mul16 : (a b : ℕ) → ℕ
mul16 a b = a * b % 65536

abbrev pub shifted16 : (a n : ℕ) → ℕ
shifted16 a n = a / 2 ^ n

abbrev pub part16 : ℕ → ℕ
part16 n = (n + n / 256) / 256

pub part16_is : (n : ℕ) → Fits w16 n → n * 257 % 4294967296 / 65536 ≡ part16 n
part16_is n fits =
    let small : n < 65536 = fits.fits in
    omega (arith, small)

abbrev pub rounded16 : ℕ → ℕ
rounded16 n = part16 (add16 n 128)

rounded16_is : (n : ℕ) → n ≤ 65025 → rounded16 (n % 65536) ≡ (2 * n + 255) / 510
rounded16_is n small = omega arith

rounded_product : (a b : ℕ) → a * b ≤ 65025 → rounded16 (mul16 a b) ≡ mul a b
rounded_product a b small =
    let is : rounded16 (mul16 a b) ≡ (2 * (a * b) + 255) / 510 = rounded16_is (a * b) small in
    omega (arith, is)

product_fits : (a b : ℕ) → a ≤ 255 → b ≤ 255 → a * b ≤ 65025
product_fits a b a_small b_small = omega (arith, mul-le-mul_right b a_small)

pub product16 : (a b : ℕ) → a ≤ 255 → b ≤ 255 → rounded16 (mul16 a b) ≡ mul a b
product16 a b a_small b_small = rounded_product a b (product_fits a b a_small b_small)

-- a difference that stops at 0
less_of : (x y z : ℕ) → x < 65536 → y < 65536 → z ≡ y + (x - y) → sub16 z y ≡ x - y
less_of x y z x_small y_small is = omega arith

pub less16 : (x y : ℕ) → Fits w16 x → Fits w16 y → sub16 (cond (ltb x y) y x) y ≡ x - y
less16 x y x_fits y_fits =
    let x_small : x < 65536 = x_fits.fits in
    let y_small : y < 65536 = y_fits.fits in
    let is : cond (ltb x y) y x ≡ y + (x - y) = cond_both (ltb x y) y x (λ z. z ≡ y + (x - y))
    (λ e. omega (arith, ltb-true x y e)) (λ e. omega (arith, ltb-false x y e)) in
    less_of x y (cond (ltb x y) y x) x_small y_small is

sub16_is : (a b : ℕ) → a ≤ 65535 → b ≤ a → sub16 a b ≡ a - b
sub16_is a b a_small b_small = omega arith

pub screen16 : (i m : ℕ) → i ≤ 255 → m ≤ 255 → sub16 (add16 i m) (mul i m) ≡ screen i m
screen16 i m i_small m_small =
    let sum : add16 i m ≡ i + m = omega arith in
    let part : mul i m ≤ i + m = omega (arith, mul-le_left i m m_small) in
    rw sum (sub16_is (i + m) (mul i m) (omega arith) part ∙ screen_by_product i m i_small m_small)

-- ---- an overlay
abbrev half16 : (m j : ℕ) → ℕ
half16 m j = add16 (mul16 m j) 64

abbrev double16 : ℕ → ℕ
double16 h = add16 h (add16 (h / 128) (h / 32768) / 2) / 128

double_of : (n : ℕ) → n ≤ 65025 → double16 (add16 (n % 65536) 64) ≡ (4 * n + 255) / 510
double_of n small = omega (arith, small)

double_is : (m j : ℕ) → m ≤ 255 → j ≤ 255 → double16 (half16 m j) ≡ mul (2 * m) j
double_is m j m_small j_small =
    let is : double16 (half16 m j) ≡ (4 * (m * j) + 255) / 510 = double_of (m * j) (product_fits m j m_small j_small) in
    omega (arith, is)

whole_of : (n : ℕ) → n ≤ 65025 → (2 * n + 255) / 510 ≡ min 255 ((2 * n + 255) / 510)
whole_of n small = omega arith

mul-cut : (a b : ℕ) → a * b ≤ 65025 → mul a b ≡ min 255 (mul a b)
mul-cut a b small =
    let is : (2 * (a * b) + 255) / 510 ≡ min 255 ((2 * (a * b) + 255) / 510) = whole_of (a * b) small in
    let same : 2 * (a * b) ≡ 2 * a * b = omega arith in
    rw same at is

pub overlay16 : (i m : ℕ) → i ≤ 255 → m ≤ 255
    → rounded16 (mul16 i (add16 i (double16 (half16 m (sub16 255 i))))) ≡ blend Overlay i m
overlay16 i m i_small m_small =
    let rest : sub16 255 i ≡ 255 - i = omega arith in
    let double : double16 (half16 m (255 - i)) ≡ mul (2 * m) (255 - i) = double_is m (255 - i) m_small (omega arith) in
    let part : mul (2 * m) (255 - i) ≤ 2 * (255 - i) = double_part m (255 - i) m_small in
    let sum : add16 i (mul (2 * m) (255 - i)) ≡ i + mul (2 * m) (255 - i) = omega (arith, part) in
    let fits : i * (i + mul (2 * m) (255 - i)) ≤ 65025 = overlay_fits i (mul (2 * m) (255 - i)) i_small part in
    rw (rest, double, sum)
    (rounded_product i (i + mul (2 * m) (255 - i)) fits ∙ mul-cut i (i + mul (2 * m) (255 - i)) fits)

-- ---- a hard light
either : (test : Bool) (x y u v : ℕ) → (test ≡ true → x ≡ min 255 u) → (test ≡ false → y ≡ min 255 v)
    → cond test x y ≡ min 255 (cond test u v)
either true x y u v first second = first refl
either false x y u v first second = second refl

dark_of : (n : ℕ) → n ≤ 32640 → n % 65536 / 128 ≡ min 255 (2 * n / 256)
dark_of n small = omega arith

light_of : (n : ℕ) → n ≤ 65025 → sub16 255 (n % 65536 / 256) ≡ min 255 (255 - n / 256)
light_of n small = omega arith

dark16 : (i m : ℕ) → i ≤ 255 → m ≤ 128 → mul16 i m / 128 ≡ min 255 (2 * i * m / 256)
dark16 i m i_small m_small =
    let small : i * m ≤ i * 128 = mul-le-mul_left i m_small in
    let is : i * m % 65536 / 128 ≡ min 255 (2 * (i * m) / 256) = dark_of (i * m) (omega (arith, small)) in
    omega (arith, is)

light16 : (i m : ℕ) → i ≤ 255 → m ≤ 255 → 128 < m
    → sub16 255 (mul16 (sub16 255 i) (sub16 (sub16 511 m) m) / 256) ≡ min 255 (255 - (255 - i) * (255 - 2 * (m - 128)) / 256)
light16 i m i_small m_small big =
    let first : sub16 255 i ≡ 255 - i = omega arith in
    let second : sub16 (sub16 511 m) m ≡ 255 - 2 * (m - 128) = omega arith in
    rw (first, second) (light_of ((255 - i) * (255 - 2 * (m - 128)))
    (product_fits (255 - i) (255 - 2 * (m - 128)) (omega arith) (omega arith)))

pub hard_light16 : (i m : ℕ) → i ≤ 255 → m ≤ 255
    → cond (ltb 128 m) (sub16 255 (mul16 (sub16 255 i) (sub16 (sub16 511 m) m) / 256)) (mul16 i m / 128) ≡ blend HardLight i m
hard_light16 i m i_small m_small =
    either (ltb 128 m) (sub16 255 (mul16 (sub16 255 i) (sub16 (sub16 511 m) m) / 256)) (mul16 i m / 128)
    (255 - (255 - i) * (255 - 2 * (m - 128)) / 256) (2 * i * m / 256)
    (λ e. light16 i m i_small m_small (ltb-true 128 m e)) (λ e. dark16 i m i_small (ltb-false 128 m e))

-- ---- a soft light
soft_cut : (x y : ℕ) → x + y ≤ 65025
    → (2 * x + 255) / 510 + (2 * y + 255) / 510 ≡ min 255 ((2 * x + 255) / 510 + (2 * y + 255) / 510)
soft_cut x y small = omega arith

weighed_fits : (i j p s : ℕ) → i + j ≡ 255 → p ≤ 255 → s ≤ 255 → j * p + i * s ≤ 65025
weighed_fits i j p s whole p_small s_small =
    let square : (i + j) * 255 ≡ 65025 = rw whole refl in
    omega (arith, square, mul-le-mul_left j p_small, mul-le-mul_left i s_small)

soft_sum : (i j p s : ℕ) → i + j ≡ 255 → p ≤ 255 → s ≤ 255 → mul j p + mul i s ≡ min 255 (mul j p + mul i s)
soft_sum i j p s whole p_small s_small =
    let is = soft_cut (j * p) (i * s) (weighed_fits i j p s whole p_small s_small) in
    let first : 2 * (j * p) ≡ 2 * j * p = omega arith in
    let second : 2 * (i * s) ≡ 2 * i * s = omega arith in
    rw (first, second) at is

pub soft_light16 : (i m : ℕ) → i ≤ 255 → m ≤ 255
    → add16 (sub16 (mul i m) (mul i (mul i m))) (mul i (screen i m)) ≡ blend SoftLight i m
soft_light16 i m i_small m_small =
    let part : mul i m ≤ m = mul-le_right i m i_small in
    let inner : mul i (mul i m) ≤ mul i m = mul-le_right i (mul i m) i_small in
    let rest : sub16 (mul i m) (mul i (mul i m)) ≡ mul (255 - i) (mul i m) =
    sub16_is (mul i m) (mul i (mul i m)) (omega arith) inner ∙ rest_of_product i (mul i m) i_small in
    let small : screen i m ≤ 255 = omega arith in
    let cut : mul (255 - i) (mul i m) + mul i (screen i m) ≡ min 255 (mul (255 - i) (mul i m) + mul i (screen i m)) =
    soft_sum i (255 - i) (mul i m) (screen i m) (omega arith) (omega arith) small in
    let sum : add16 (mul (255 - i) (mul i m)) (mul i (screen i m)) ≡ mul (255 - i) (mul i m) + mul i (screen i m) =
    omega (arith, cut, mul-le_right (255 - i) (mul i m) (omega arith), mul-le_right i (screen i m) i_small) in
    rw rest (sum ∙ cut)

-- ---- a mean
abbrev pub mixed16 : (x y : ℕ) → ℕ
mixed16 x y = rounded16 (add16 x y)

abbrev pub rest16 : (b t : ℕ) → ℕ
rest16 b t = mul16 b (sub16 255 t)

sum_of : (x y : ℕ) → x + y ≤ 65025 → mixed16 (x % 65536) (y % 65536) ≡ (2 * (x + y) + 255) / 510
sum_of x y small = omega arith

pub mean16 : (t a b : ℕ) → t ≤ 255 → a ≤ 255 → b ≤ 255 → mixed16 (mul16 a t) (rest16 b t) ≡ mean 255 t a b
mean16 t a b t_small a_small b_small =
    let rest : sub16 255 t ≡ 255 - t = omega arith in
    rw rest (sum_of (a * t) (b * (255 - t)) (weighed t a b t_small a_small b_small))

-- ---- the modes of at most one product
pub normal16 : (i m : ℕ) → i ≤ 255 → m ≤ 255 → m ≡ blend Normal i m
normal16 i m i_small m_small = omega arith

pub multiply16 : (i m : ℕ) → i ≤ 255 → m ≤ 255 → mul i m ≡ blend Multiply i m
multiply16 i m i_small m_small = mul-cut i m (product_fits i m i_small m_small)

pub screen_cut : (i m : ℕ) → i ≤ 255 → m ≤ 255 → screen i m ≡ blend Screen i m
screen_cut i m i_small m_small = omega arith

pub subtract16 : (i m : ℕ) → i ≤ 255 → m ≤ 255 → i - m ≡ blend Subtract i m
subtract16 i m i_small m_small = omega arith

pub darken16 : (i m : ℕ) → i ≤ 255 → m ≤ 255 → min i m ≡ blend DarkenOnly i m
darken16 i m i_small m_small = omega arith

pub lighten16 : (i m : ℕ) → i ≤ 255 → m ≤ 255 → max i m ≡ blend LightenOnly i m
lighten16 i m i_small m_small = omega arith

pub difference16 : (i m : ℕ) → i ≤ 255 → m ≤ 255 → add16 (i - m) (m - i) ≡ blend Difference i m
difference16 i m i_small m_small = omega arith

pub addition16 : (i m : ℕ) → i ≤ 255 → m ≤ 255 → min (add16 i m) 255 ≡ blend Addition i m
addition16 i m i_small m_small = omega arith

pub extract16 : (i m : ℕ) → i ≤ 255 → m ≤ 255 → min (add16 i 128 - m) 255 ≡ blend GrainExtract i m
extract16 i m i_small m_small = omega arith

pub merge16 : (i m : ℕ) → i ≤ 255 → m ≤ 255 → min (add16 i m - 128) 255 ≡ blend GrainMerge i m
merge16 i m i_small m_small = omega arith
