-- The bytes that a filter leaves.
use Rattle.std.specs.Prelude.{◌≡◌, ℕ, ◌+◌, ◌-◌, ◌*◌, ◌<◌, if◌then◌else◌, cond, nat_lt, List, length, slice_index}
use Rattle.spec_document.specs.declared.Rect.{Rect}
use Rattle.spec_document.specs.Rect.{part_above_0}
use Rattle.spec_document.specs.Plane.{Plane, byte_at}
use Rattle.spec_document.specs.Document.{Document, Layer, has_alpha}
use Rattle.spec_edit.specs.Effect.{paint, filtered}
use Rattle.xl_doc.specs.Sheet.{Sheet}
use Rattle.xl_paint.specs.Filling.{in_rows}

-- what a filter makes of a layer
abbrev pub filters : Document → Rect → (table : List ℕ) → Layer → Layer
filters d rect table l = paint d rect (filtered table l) l

-- how many bytes of each pixel are colours: all but alpha
abbrev pub colours_of : Sheet → ℕ
colours_of s = if has_alpha s.kind then s.plane.bpp - 1 else s.plane.bpp

-- the first bytes of a pixel go through a table
abbrev pub byte_through : (table : List ℕ) → (colours : ℕ) → Plane → (x y c : ℕ) → ℕ
byte_through table colours p x y c = cond (nat_lt c colours) (slice_index table (byte_at p x y c)) (byte_at p x y c)

-- the bytes of a rectangle of a plane, row by row, of each pixel the first ones through a table
pub record AreFiltered (table : List ℕ) (colours : ℕ) (rect : Rect) (p : Plane) (bytes : List ℕ) : Type 0 where
  pub size : length bytes ≡ rect.w * rect.h * p.bpp
  pub each : (column row c : ℕ) → column < rect.w → row < rect.h → c < p.bpp
      → in_rows (rect.w * p.bpp) p.bpp bytes column row c
      ≡ byte_through table colours p (part_above_0 rect.x + column) (part_above_0 rect.y + row) c
