-- Selections over a canvas.
use Rattle.std.specs.Prelude.{ℕ, ℤ, pos, negsuc, ◌≤ℤ◌, if◌then◌else◌}
use Rattle.spec_document.specs.Rect.{has_point, part_above_0, sheet}
use Rattle.spec_document.specs.Plane.{Plane, byte_at}

-- the byte of a plane at a point, and 0 outside it
abbrev pub byte_or_0 : Plane → (x y : ℤ) → ℕ
byte_or_0 p x y = if has_point (sheet p.width p.height) x y then byte_at p (part_above_0 x) (part_above_0 y) 0 else 0

-- so near to 0 that a row of a canvas can begin there
abbrev pub IsNear : ℤ → Type 0
IsNear z = (negsuc 524287 ≤ℤ z) × (z ≤ℤ pos 524288)
