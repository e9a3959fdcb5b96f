-- How much of a canvas is selected.
use Rattle.std.specs.Prelude.{ℕ, ℤ, Option, Some, None, if◌then◌else◌}
use Rattle.spec_document.specs.Rect.{has_point, part_above_0, sheet}
use Rattle.spec_document.specs.Plane.{byte_at}
use Rattle.spec_document.specs.Document.{Channel, Document}

-- how much of a point is selected: all of it where there is no selection, and nothing outside the canvas
abbrev pub selected_in : Option Channel → Document → (x y : ℤ) → ℕ
selected_in None d x y = 255
selected_in (Some s) d x y =
    if has_point (sheet d.width d.height) x y then byte_at s.plane (part_above_0 x) (part_above_0 y) 0 else 0

abbrev pub selected : Document → (x y : ℤ) → ℕ
selected d x y = selected_in d.selection d x y
