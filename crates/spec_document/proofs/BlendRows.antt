-- Worked values.
use Rattle.std.proofs.Common.{◌≡◌, ℕ, refl}
use Rattle.spec_document.specs.declared.Mode.TheVariants.{Normal, Multiply, Screen, Overlay, Divide, Dodge, Burn, HardLight, SoftLight}
use Rattle.spec_document.specs.declared.Pixel.{Pixel}
use Rattle.spec_document.specs.Blend.{mul, blend}
use Rattle.spec_document.specs.Over.{over}

multiply : blend Multiply 200 100 ≡ 78
multiply = refl

screen : blend Screen 200 100 ≡ 222
screen = refl

overlay : blend Overlay 100 200 ≡ 135
overlay = refl

soft_light : blend SoftLight 100 200 ≡ 134
soft_light = refl

divide : blend Divide 10 0 ≡ 255
divide = refl

dodge : blend Dodge 200 255 ≡ 255
dodge = refl

burn : blend Burn 100 0 ≡ 0
burn = refl

hard_light : blend HardLight 77 128 ≡ 77
hard_light = refl

abbrev grey : ℕ → ℕ → Pixel
grey v a = record { r = v; g = v; b = v; a = a }

normal : over Normal (grey 100 128) (grey 200 128) ≡ grey 167 192
normal = refl

multiply_over : over Multiply (grey 200 128) (grey 100 255) ≡ grey 119 128
multiply_over = refl

source_alpha : mul (mul 200 128) 100 ≡ 39
source_alpha = refl
