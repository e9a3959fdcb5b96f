-- What a viewer sees of a pixel.
use Rattle.std.specs.Prelude.{◌==◌, if◌then◌else◌}
use Rattle.spec_document.specs.declared.Pixel.{Pixel}
use Rattle.spec_document.specs.Over.{clear}

-- the pixel, with no colour where it has no alpha
abbrev pub shown : Pixel → Pixel
shown p = if p.a == 0 then clear else p
