-- Rectangles of the canvas.
use Rattle.std.specs.Prelude.{ℕ, ◌+◌, ◌≤◌, pos, ◌≤ℤ◌}
use Rattle.spec_document.specs.declared.Rect.{Rect}
use Rattle.spec_document.specs.Rect.{part_above_0}

-- the rectangle lies inside a canvas of these sides; it may be empty
pub record IsInside (w h : ℕ) (r : Rect) : Type 0 where
  pub left : pos 0 ≤ℤ r.x
  pub top : pos 0 ≤ℤ r.y
  pub right : part_above_0 r.x + r.w ≤ w
  pub bottom : part_above_0 r.y + r.h ≤ h
