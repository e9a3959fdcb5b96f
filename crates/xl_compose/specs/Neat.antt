-- Pixels of a picture.
use Rattle.std.specs.Prelude.{◌≡◌}
use Rattle.spec_document.specs.declared.Pixel.{Pixel}
use Rattle.spec_document.specs.Over.{clear}

-- where there is no alpha, there is no colour
abbrev pub IsNeat : Pixel → Type 0
IsNeat p = p.a ≡ 0 → p ≡ clear
