-- Rectangles whose coordinates and sides are far from the ends of their types.
use Rattle.std.specs.Prelude.{◌^◌, ◌≤◌, ℤ, pos, negsuc, ◌≤ℤ◌}
use Rattle.spec_document.specs.declared.Rect.{Rect}

-- within 2^20 of zero
abbrev pub IsNear : ℤ → Type 0
IsNear z = (negsuc 1048575 ≤ℤ z) × (z ≤ℤ pos 1048576)

-- past a span that begins near zero
abbrev pub IsEnd : ℤ → Type 0
IsEnd z = (negsuc 1048575 ≤ℤ z) × (z ≤ℤ pos 2097152)

pub record IsSmall (r : Rect) : Type 0 where
  pub x : IsNear r.x
  pub y : IsNear r.y
  pub w : r.w ≤ 2 ^ 20
  pub h : r.h ≤ 2 ^ 20
