-- One pixel laid over another.
use Rattle.std.specs.Prelude.{ℕ, ◌+◌, ◌-◌, ◌*◌, ◌/◌, ◌≤◌, min, ◌==◌, if◌then◌else◌}
use Rattle.spec_document.specs.declared.Mode.{Mode}
use Rattle.spec_document.specs.declared.Mode.TheVariants.{Normal, Multiply, Screen, Overlay, Difference, Addition}
use Rattle.spec_document.specs.declared.Mode.TheVariants.{Subtract, DarkenOnly, LightenOnly, Divide, Dodge, Burn}
use Rattle.spec_document.specs.declared.Mode.TheVariants.{HardLight, SoftLight, GrainExtract, GrainMerge}
use Rattle.spec_document.specs.declared.Pixel.{Pixel}
use Rattle.spec_document.specs.Blend.{mul, blend}

-- four bytes
pub record IsPixel (p : Pixel) : Type 0 where
  pub r : p.r ≤ 255
  pub g : p.g ≤ 255
  pub b : p.b ≤ 255
  pub a : p.a ≤ 255

-- no colour, and nothing of it
abbrev pub clear : Pixel
clear = record { r = 0; g = 0; b = 0; a = 0 }

-- the mean of a byte with the weight w and another with the rest of the total, rounded to the nearest
abbrev pub mean : (total w : ℕ) → ℕ → ℕ → ℕ
mean total w above below = (2 * (above * w + below * (total - w)) + total) / (2 * total)

-- the normal mode: the result's alpha covers what either covers, and the upper colour comes first
abbrev pub over_normal : Pixel → Pixel → Pixel
over_normal below above =
    let alpha = above.a + mul below.a (255 - above.a) in
    if alpha == 0 then clear else
    record {
      r = mean alpha above.a above.r below.r;
      g = mean alpha above.a above.g below.g;
      b = mean alpha above.a above.b below.b;
      a = alpha;
    }

-- any other mode: the lower alpha stays, and the blended colour has a part of it
abbrev pub over_blended : Mode → Pixel → Pixel → Pixel
over_blended mode below above =
    let part = min above.a below.a in
    let total = below.a + mul (255 - below.a) part in
    if part == 0 then below else
    record {
      r = mean total part (blend mode below.r above.r) below.r;
      g = mean total part (blend mode below.g above.g) below.g;
      b = mean total part (blend mode below.b above.b) below.b;
      a = below.a;
    }

abbrev pub over : Mode → Pixel → Pixel → Pixel
over Normal below above = over_normal below above
over Multiply below above = over_blended Multiply below above
over Screen below above = over_blended Screen below above
over Overlay below above = over_blended Overlay below above
over Difference below above = over_blended Difference below above
over Addition below above = over_blended Addition below above
over Subtract below above = over_blended Subtract below above
over DarkenOnly below above = over_blended DarkenOnly below above
over LightenOnly below above = over_blended LightenOnly below above
over Divide below above = over_blended Divide below above
over Dodge below above = over_blended Dodge below above
over Burn below above = over_blended Burn below above
over HardLight below above = over_blended HardLight below above
over SoftLight below above = over_blended SoftLight below above
over GrainExtract below above = over_blended GrainExtract below above
over GrainMerge below above = over_blended GrainMerge below above
