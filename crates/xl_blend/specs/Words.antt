-- Pixels as words of 32 bits, and reciprocals.
use Rattle.std.specs.Prelude.{ℕ, ◌+◌, ◌-◌, ◌*◌, ◌/◌, ◌%◌, min, max}
use Rattle.spec_document.specs.declared.Pixel.{Pixel}
use Rattle.spec_document.specs.Blend.{mul}

-- the four bytes of a pixel, red lowest
abbrev pub word_of : Pixel → ℕ
word_of p = p.r + 256 * p.g + 65536 * p.b + 16777216 * p.a

-- the pixel of such a word
abbrev pub pixel_of : ℕ → Pixel
pixel_of w = record { r = w % 256; g = w / 256 % 256; b = w / 65536 % 256; a = w / 16777216 % 256 }

-- the quotient of 2 ^ 24 by n, rounded up, and 0 by 0
abbrev pub reciprocal_of : ℕ → ℕ
reciprocal_of n = (16777216 + (n - 1)) / n

-- the alpha of a pixel over another in the normal mode
abbrev pub alpha_over : (below above : Pixel) → ℕ
alpha_over below above = above.a + mul below.a (255 - above.a)

-- what weighs the colours of a pixel and the one below it in any mode but the normal one, and 1 where that is nothing
abbrev pub weight : (below above : Pixel) → ℕ
weight below above = max 1 (below.a + mul (255 - below.a) (min above.a below.a))
