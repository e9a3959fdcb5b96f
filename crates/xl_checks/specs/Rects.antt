-- The rectangle that a copy reads.
use Rattle.std.specs.Prelude.{ℕ, pos}
use Rattle.spec_document.specs.declared.Rect.{Rect}

-- a rectangle of the same sides at a column and row
abbrev pub rect_from : (u v : ℕ) → Rect → Rect
rect_from u v rect = record { x = pos u; y = pos v; w = rect.w; h = rect.h }
