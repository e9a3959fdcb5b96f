-- One pixel over another, where one of them is opaque or clear.
use Rattle.std.proofs.Common.{◌≡◌, ℕ, ◌+◌, ◌-◌, ◌*◌, ◌≤◌, ◌<◌, Bool, true, false, cond, nat_eq, min, max}
use Rattle.std.proofs.Common.{refl, sym, ◌∙◌, ap, arith, ◌≢◌, List}
use Rattle.std.proofs.lemmas.Bool.{eqb-true, eqb-false}
use Rattle.std.proofs.lemmas.Nat.{div-mul-add}
use Rattle.spec_document.specs.declared.Mode.{Mode}
use Rattle.spec_document.specs.declared.Mode.TheVariants.{Normal}
use Rattle.spec_document.specs.declared.Pixel.{Pixel}
use Rattle.spec_document.specs.Blend.{mul, blend}
use Rattle.spec_document.specs.Over.{over_normal, over_blended, clear, mean, IsPixel}
use Rattle.spec_document.proofs.OverLemmas.{mul-le_left}
use Rattle.xl_blend.specs.Shown.{shown}
use Rattle.xl_blend.specs.Rows.{over_opaque, over_rows, blended_rows}
use Rattle.xl_blend.specs.Words.{alpha_over, weight}

-- an opaque pixel below stays opaque
opaque_stays : (part : ℕ) → part ≤ 255 → part + mul 255 (255 - part) ≡ 255
opaque_stays part small = omega arith

abbrev pixel_by : (r g b a : ℕ) → Pixel
pixel_by r g b a = record { r = r; g = g; b = b; a = a }

over_opaque_is : (below above : Pixel) → above.a ≤ 255 → below.a ≡ 255
    → over_normal below above ≡ record {
      r = mean 255 above.a above.r below.r;
      g = mean 255 above.a above.g below.g;
      b =
          mean 255 above.a above.b below.b;
      a = 255;
    }
over_opaque_is below above small opaque = rw (opaque, opaque_stays above.a small) refl

-- the same as the rule of any mode
byte_by_itself : (n : ℕ) → n ≤ 255 → min 255 n ≡ n
byte_by_itself n small = omega arith

pub normal_over_opaque : (below above : Pixel) → IsPixel above → below.a ≡ 255
    → over_opaque Normal below above ≡ over_normal below above
normal_over_opaque below above bytes opaque =
    rw (byte_by_itself above.r bytes.r, byte_by_itself above.g bytes.g, byte_by_itself above.b bytes.b)
    (sym (over_opaque_is below above bytes.a opaque))

chosen_second : (test : Bool) (p q : Pixel) → (test ≡ true → q ≡ p) → cond test p q ≡ q
chosen_second true p q same = sym (same refl)
chosen_second false p q same = refl

mean-none : (part x y : ℕ) → part ≡ 0 → mean 0 part x y ≡ 0
mean-none part x y none = rw none (omega arith)

by_none : (part r g b u v w : ℕ) → part ≡ 0 → pixel_by (mean 0 part r u) (mean 0 part g v) (mean 0 part b w) 0 ≡ clear
by_none part r g b u v w none = rw (mean-none part r u none, mean-none part g v none, mean-none part b w none) refl

-- by the means alone, which are 0 where nothing is covered
pub over_by_means : (below above result : Pixel) (whole r g b : ℕ) → whole ≡ alpha_over below above
    → r ≡ mean whole above.a above.r below.r → g ≡ mean whole above.a above.g below.g → b ≡ mean whole above.a above.b below.b
    → result ≡ record { r = r; g = g; b = b; a = whole }
    → result ≡ over_normal below above
over_by_means below above result whole r g b whole_is r_is g_is b_is result_is =
    let made = pixel_by (mean whole above.a above.r below.r) (mean whole above.a above.g below.g)
    (mean whole above.a above.b below.b) whole in
    let parts : pixel_by r g b whole ≡ made = rw (r_is, g_is, b_is) refl in
    let chosen : cond (nat_eq whole 0) clear made ≡ made =
    chosen_second (nat_eq whole 0) clear made (λ test.
    let none : whole ≡ 0 = eqb-true whole 0 test in
    let bare : above.a ≡ 0 = omega arith in
    rw none (by_none above.a above.r above.g above.b below.r below.g below.b bare)) in
    result_is ∙ parts ∙ sym chosen ∙ ap
    (λ n. cond (nat_eq n 0) clear (pixel_by (mean n above.a above.r below.r) (mean n above.a above.g below.g)
    (mean n above.a above.b below.b) n)) whole_is

-- ---- where one of the two is opaque or clear, nothing is mixed
chosen_same : (test : Bool) (p q r : Pixel) → (test ≡ false → q ≡ r) → cond test p q ≡ cond test p r
chosen_same true p q r same = refl
chosen_same false p q r same = same refl

-- a mean with all the weight on one side
mean-all_above : (whole x y : ℕ) → 0 < whole → mean whole whole x y ≡ x
mean-all_above whole x y some =
    let none : whole - whole ≡ 0 = omega arith in
    let sum : 2 * (x * whole + y * 0) + whole ≡ x * (2 * whole) + whole = omega arith in
    let less : whole < 2 * whole = omega arith in
    rw (none, sum) (div-mul-add x (2 * whole) whole less)

mean-all_below : (whole x y : ℕ) → 0 < whole → mean whole 0 x y ≡ y
mean-all_below whole x y some =
    let all : whole - 0 ≡ whole = omega arith in
    let sum : 2 * (x * 0 + y * whole) + whole ≡ y * (2 * whole) + whole = omega arith in
    let less : whole < 2 * whole = omega arith in
    rw (all, sum) (div-mul-add y (2 * whole) whole less)

positive_of : (n : ℕ) → nat_eq n 0 ≡ false → 0 < n
positive_of n h = let some : (n ≡ 0 → ⊥) = eqb-false n 0 h in omega (arith, some)

-- the rule at a known alpha and a known weight
abbrev by_alpha : (whole part : ℕ) → Pixel → Pixel → Pixel
by_alpha whole part below above =
    cond (nat_eq whole 0) clear (pixel_by (mean whole part above.r below.r) (mean whole part above.g below.g)
    (mean whole part above.b below.b) whole)

laid_at : (whole part : ℕ) (below above : Pixel) → alpha_over below above ≡ whole → above.a ≡ part
    → over_normal below above ≡ by_alpha whole part below above
laid_at whole part below above whole_is part_is =
    let first : over_normal below above ≡ by_alpha whole above.a below above = ap (λ n. by_alpha n above.a below above) whole_is in
    first ∙ ap (λ n. by_alpha whole n below above) part_is

pub over_by_opaque : (below above : Pixel) → above.a ≡ 255 → over_normal below above ≡ above
over_by_opaque below above opaque =
    let some : 0 < 255 = omega arith in
    let whole : alpha_over below above ≡ 255 = rw opaque (omega arith) in
    let colours : by_alpha 255 255 below above ≡ pixel_by above.r above.g above.b 255 =
    rw (
      mean-all_above 255 above.r below.r some,
      mean-all_above 255 above.g below.g some,
      mean-all_above 255 above.b below.b some,
    ) refl in
    laid_at 255 255 below above whole opaque ∙ colours ∙ ap (λ n. pixel_by above.r above.g above.b n) (sym opaque)

pub over_by_clear : (below above : Pixel) → above.a ≡ 0 → over_normal below above ≡ shown below
over_by_clear below above bare =
    let whole : alpha_over below above ≡ below.a = rw bare (omega arith) in
    laid_at below.a 0 below above whole bare
    ∙ chosen_same (nat_eq below.a 0) clear
    (pixel_by (mean below.a 0 above.r below.r) (mean below.a 0 above.g below.g) (mean below.a 0 above.b below.b) below.a) below
    (λ test.
    let some : 0 < below.a = positive_of below.a test in
    rw (
      mean-all_below below.a above.r below.r some,
      mean-all_below below.a above.g below.g some,
      mean-all_below below.a above.b below.b some,
    ) refl)

pub over_clear : (below above : Pixel) → below.a ≡ 0 → over_normal below above ≡ shown above
over_clear below above bare =
    let whole : alpha_over below above ≡ above.a = rw bare (omega arith) in
    laid_at above.a above.a below above whole refl
    ∙ chosen_same (nat_eq above.a 0) clear
    (pixel_by (mean above.a above.a above.r below.r) (mean above.a above.a above.g below.g)
    (mean above.a above.a above.b below.b) above.a) above (λ test.
    let some : 0 < above.a = positive_of above.a test in
    rw (
      mean-all_above above.a above.r below.r some,
      mean-all_above above.a above.g below.g some,
      mean-all_above above.a above.b below.b some,
    ) refl)

-- ---- any other mode
abbrev by_part : Mode → (total part : ℕ) → Pixel → Pixel → Pixel
by_part mode total part below above =
    cond (nat_eq part 0) below (pixel_by (mean total part (blend mode below.r above.r) below.r)
    (mean total part (blend mode below.g above.g) below.g) (mean total part (blend mode below.b above.b) below.b) below.a)

pub blended_by_clear : (mode : Mode) (below above : Pixel) → above.a ≡ 0 → over_blended mode below above ≡ below
blended_by_clear mode below above bare =
    let none : min above.a below.a ≡ 0 = omega arith in
    ap (λ n. by_part mode (below.a + mul (255 - below.a) n) n below above) none

pub blended_over_opaque : (mode : Mode) (below above : Pixel) → above.a ≤ 255 → below.a ≡ 255
    → over_blended mode below above ≡ record {
      r = mean 255 above.a (blend mode below.r above.r) below.r;
      g =
          mean 255 above.a (blend mode below.g above.g) below.g;
      b = mean 255 above.a (blend mode below.b above.b) below.b;
      a = 255;
    }
blended_over_opaque mode below above small opaque =
    let some : 0 < 255 = omega arith in
    let part : min above.a below.a ≡ above.a = omega arith in
    let none : 255 - below.a ≡ 0 = omega arith in
    let total : below.a + mul (255 - below.a) above.a ≡ 255 = rw none (omega arith) in
    let made = pixel_by (mean 255 above.a (blend mode below.r above.r) below.r)
    (mean 255 above.a (blend mode below.g above.g) below.g) (mean 255 above.a (blend mode below.b above.b) below.b) below.a in
    let first : over_blended mode below above ≡ by_part mode (below.a + mul (255 - below.a) above.a) above.a below above =
    ap (λ n. by_part mode (below.a + mul (255 - below.a) n) n below above) part in
    let second : by_part mode (below.a + mul (255 - below.a) above.a) above.a below above ≡ by_part mode 255 above.a below above =
    ap (λ n. by_part mode n above.a below above) total in
    let third : by_part mode 255 above.a below above ≡ made = chosen_second (nat_eq above.a 0) below made (λ test.
    let bare : above.a ≡ 0 = eqb-true above.a 0 test in
    rw (
      bare,
      mean-all_below 255 (blend mode below.r above.r) below.r some,
      mean-all_below 255 (blend mode below.g above.g) below.g some,
      mean-all_below 255 (blend mode below.b above.b) below.b some,
    ) refl) in
    first ∙ second ∙ third ∙ ap (λ n.
    pixel_by (mean 255 above.a (blend mode below.r above.r) below.r) (mean 255 above.a (blend mode below.g above.g) below.g)
    (mean 255 above.a (blend mode below.b above.b) below.b) n) opaque

chosen_either : (test : Bool) (p q r : Pixel) → (test ≡ true → r ≡ p) → (test ≡ false → q ≡ r) → cond test p q ≡ r
chosen_either true p q r first second = sym (first refl)
chosen_either false p q r first second = second refl

one_at_least : (total whole : ℕ) → whole ≡ max 1 total → (0 < whole) × (0 < total → total ≡ whole)
one_at_least total whole is = (omega arith, λ some. omega arith)

-- over any pixel by three means, by what weighs the colours
pub blended_by_weight : (mode : Mode) (below above result : Pixel) (whole r g b : ℕ) → whole ≡ weight below above
    → r ≡ mean whole (min above.a below.a) (blend mode below.r above.r) below.r
    → g ≡ mean whole (min above.a below.a) (blend mode below.g above.g) below.g
    → b ≡ mean whole (min above.a below.a) (blend mode below.b above.b) below.b
    → result ≡ record { r = r; g = g; b = b; a = below.a }
    → result ≡ over_blended mode below above
blended_by_weight mode below above result whole r g b whole_is r_is g_is b_is result_is =
    let part = min above.a below.a in
    let total = below.a + mul (255 - below.a) part in
    let by = λ (n : ℕ). pixel_by (mean n part (blend mode below.r above.r) below.r)
    (mean n part (blend mode below.g above.g) below.g) (mean n part (blend mode below.b above.b) below.b) below.a in
    let least = one_at_least total whole whole_is in
    let parts : pixel_by r g b below.a ≡ by whole = rw (r_is, g_is, b_is) refl in
    let chosen : cond (nat_eq part 0) below (by total) ≡ by whole = chosen_either (nat_eq part 0) below (by total) (by whole)
    (λ test.
    let bare : part ≡ 0 = eqb-true part 0 test in
    rw (
      bare,
      mean-all_below whole (blend mode below.r above.r) below.r least.0,
      mean-all_below whole (blend mode below.g above.g) below.g least.0,
      mean-all_below whole (blend mode below.b above.b) below.b least.0,
    ) refl)
    (λ test.
    let some : 0 < part = positive_of part test in
    ap by (least.1 (omega arith))) in
    result_is ∙ parts ∙ sym chosen

pub weight-is_byte : (below above : Pixel) (whole : ℕ) → below.a ≤ 255 → whole ≡ weight below above → whole ≤ 255
weight-is_byte below above whole small is =
    let part : min above.a below.a ≤ 255 = omega (arith, small) in
    omega (arith, is, small, mul-le_left (255 - below.a) (min above.a below.a) part)

-- a mode that is not the normal one lays by the rule of all the others
pub other_rows : (mode : Mode) (below above : List Pixel) → mode ≢ Normal
    → blended_rows mode below above ≡ over_rows mode below above
other_rows Normal below above other = absurd (other refl)
other_rows mode below above other = refl
