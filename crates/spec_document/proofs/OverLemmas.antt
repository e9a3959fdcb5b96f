-- A pixel over a pixel is a pixel.
use Rattle.std.proofs.Common.{◌≡◌, ℕ, ◌+◌, ◌-◌, ◌*◌, ◌/◌, ◌<◌, ◌≤◌, Bool, true, false, cond, min, nat_eq, refl, arith}
use Rattle.std.proofs.lemmas.Bool.{eqb-false}
use Rattle.std.proofs.Math.Nat.{div-lt_iff_lt-mul, mul-le-mul_right}
use Rattle.spec_document.specs.declared.Mode.{Mode}
use Rattle.spec_document.specs.declared.Mode.TheVariants.{Normal}
use Rattle.spec_document.specs.declared.Pixel.{Pixel}
use Rattle.spec_document.specs.Blend.{mul, blend}
use Rattle.spec_document.specs.Over.{over, over_normal, over_blended, mean, IsPixel}

mean_below : (a b w d : ℕ) → a ≤ 255 → b ≤ 255 → 0 < w + d → 2 * (a * w + b * d) + (w + d) < 256 * (2 * (w + d))
mean_below a b w d ha hb some = omega (arith, mul-le-mul_right w ha, mul-le-mul_right d hb)

mean_at : (a b w t d : ℕ) → t ≡ w + d → a ≤ 255 → b ≤ 255 → 0 < t → (2 * (a * w + b * d) + t) / (2 * t) ≤ 255
mean_at a b w t d is ha hb some =
    let some' : 0 < w + d = omega arith in
    let below : 2 * (a * w + b * d) + t < 256 * (2 * t) = omega (arith, mean_below a b w d ha hb some') in
    let positive : 0 < 2 * t = omega arith in
    let lt : (2 * (a * w + b * d) + t) / (2 * t) < 256 = (div-lt_iff_lt-mul positive).1 below in
    omega (arith, lt)

pub mean-is_byte : (total w a b : ℕ) → 0 < total → w ≤ total → a ≤ 255 → b ≤ 255 → mean total w a b ≤ 255
mean-is_byte total w a b some within ha hb = mean_at a b w total (total - w) (omega arith) ha hb some

chosen : (test : Bool) {x y : Pixel} → IsPixel x → (test ≡ false → IsPixel y) → IsPixel (cond test x y)
chosen true px py = px
chosen false px py = py refl

pub mul-le_right : (a b : ℕ) → a ≤ 255 → mul a b ≤ b
mul-le_right a b ha =
    let positive : 0 < 510 = omega arith in
    let below : 2 * a * b + 255 < (b + 1) * 510 = omega (arith, mul-le-mul_right b ha) in
    let lt : (2 * a * b + 255) / 510 < b + 1 = (div-lt_iff_lt-mul positive).1 below in
    omega (arith, lt)

pub mul-le_left : (a b : ℕ) → b ≤ 255 → mul a b ≤ a
mul-le_left a b hb =
    let positive : 0 < 510 = omega arith in
    let below : 2 * a * b + 255 < (a + 1) * 510 = omega (arith, mul-le-mul_right a hb) in
    let lt : (2 * a * b + 255) / 510 < a + 1 = (div-lt_iff_lt-mul positive).1 below in
    omega (arith, lt)

positive_of : (n : ℕ) → nat_eq n 0 ≡ false → 0 < n
positive_of n h = let some : (n ≡ 0 → ⊥) = eqb-false n 0 h in omega (arith, some)

normal_is_pixel : (below above : Pixel) → IsPixel below → IsPixel above → IsPixel (over_normal below above)
normal_is_pixel below above pb pa =
    let alpha = above.a + mul below.a (255 - above.a) in
    let within : above.a ≤ alpha = omega arith in
    chosen (nat_eq alpha 0)
    (record { r = omega arith; g = omega arith; b = omega arith; a = omega arith })
    (λ h. let some : 0 < alpha = positive_of alpha h in
    record {
      r = mean-is_byte alpha above.a above.r below.r some within pa.r pb.r;
      g = mean-is_byte alpha above.a above.g below.g some within pa.g pb.g;
      b = mean-is_byte alpha above.a above.b below.b some within pa.b pb.b;
      a = omega (arith, mul-le_right below.a (255 - above.a) pb.a, pa.a);
    })

min_byte : (n : ℕ) → min 255 n ≤ 255
min_byte n = omega arith

blended_is_pixel : (mode : Mode) (below above : Pixel) → IsPixel below → IsPixel above → IsPixel (over_blended mode below above)
blended_is_pixel mode below above pb pa =
    let part = min above.a below.a in
    let total = below.a + mul (255 - below.a) part in
    let within : part ≤ total = omega arith in
    chosen (nat_eq part 0) pb
    (λ h. let some : 0 < part = positive_of part h in
    let some' : 0 < total = omega arith in
    record {
      r = mean-is_byte total part (blend mode below.r above.r) below.r some' within (min_byte _) pb.r;
      g = mean-is_byte total part (blend mode below.g above.g) below.g some' within (min_byte _) pb.g;
      b = mean-is_byte total part (blend mode below.b above.b) below.b some' within (min_byte _) pb.b;
      a = pb.a;
    })

pub over-is_pixel : (mode : Mode) (below above : Pixel) → IsPixel below → IsPixel above → IsPixel (over mode below above)
over-is_pixel Normal below above pb pa = normal_is_pixel below above pb pa
over-is_pixel mode below above pb pa = blended_is_pixel mode below above pb pa
