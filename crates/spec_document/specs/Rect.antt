-- Rectangles as sets of points.
use Rattle.std.specs.Prelude.{ℕ, zero, suc, Bool, ◌&&◌, ◌||◌, not, ◌==◌, if◌then◌else◌, ℤ, pos, negsuc, ◌+ℤ◌, ◌-ℤ◌}
use Rattle.std.specs.Prelude.{int_lt, int_le, List, [], ◌∷◌}
use Rattle.std.specs.Int.{int_min, int_max}
use Rattle.spec_document.specs.declared.Rect.{Rect}

abbrev pub is_empty : Rect → Bool
is_empty r = r.w == 0 || r.h == 0

-- the first coordinates past the rectangle
abbrev pub right : Rect → ℤ
right r = r.x +ℤ pos r.w

abbrev pub bottom : Rect → ℤ
bottom r = r.y +ℤ pos r.h

-- whether the point is in the rectangle
abbrev pub has_point : Rect → ℤ → ℤ → Bool
has_point r x y = (int_le r.x x && int_lt x (right r)) && (int_le r.y y && int_lt y (bottom r))

-- the part of a number from 0 up
abbrev pub part_above_0 : ℤ → ℕ
part_above_0 (pos n) = n
part_above_0 (negsuc n) = 0

-- the rectangle between two corners
abbrev pub between : (left top right bottom : ℤ) → Rect
between l t r b = record { x = l; y = t; w = part_above_0 (r -ℤ l); h = part_above_0 (b -ℤ t) }

-- the common points
abbrev pub meet : Rect → Rect → Rect
meet a b = between (int_max a.x b.x) (int_max a.y b.y) (int_min (right a) (right b)) (int_min (bottom a) (bottom b))

-- the least rectangle round both; an empty one adds nothing
abbrev pub hull : Rect → Rect → Rect
hull a b =
    if is_empty a then b else
    if is_empty b then a else
    between (int_min a.x b.x) (int_min a.y b.y) (int_max (right a) (right b)) (int_max (bottom a) (bottom b))

abbrev pub no_rect : Rect
no_rect = record { x = pos 0; y = pos 0; w = 0; h = 0 }

-- a rectangle of these sides at the origin
abbrev pub sheet : (w h : ℕ) → Rect
sheet w h = record { x = pos 0; y = pos 0; w = w; h = h }

-- whether they share a point
abbrev pub do_meet : Rect → Rect → Bool
do_meet a b = not (is_empty (meet a b))

-- whether it is not empty and lies inside a sheet of these sides
abbrev pub lies_on : (w h : ℕ) → Rect → Bool
lies_on w h r =
    not (is_empty r) && ((int_le (pos 0) r.x && int_le (right r) (pos w)) && (int_le (pos 0) r.y && int_le (bottom r) (pos h)))

-- n numbers from the first on
abbrev pub count_from : (first n : ℕ) → List ℕ
count_from first zero = []
count_from first (suc n) = first ∷ count_from (suc first) n
