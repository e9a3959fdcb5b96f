-- All pixels of a plane.
use Rattle.std.specs.Prelude.{pos}
use Rattle.spec_document.specs.declared.Rect.{Rect}
use Rattle.spec_document.specs.Plane.{Plane}

abbrev pub whole_of : Plane → Rect
whole_of plane = record { x = pos 0; y = pos 0; w = plane.width; h = plane.height }
