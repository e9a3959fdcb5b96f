-- The bytes of a rectangle of a plane after new ones went into it through the selection.
use Rattle.std.specs.Prelude.{◌≡◌, ℕ, ◌+◌, ◌-◌, ◌*◌, ◌<◌, ◌≤◌, ◌==◌, ◌&&◌, Bool, if◌then◌else◌, nat_le, ◌+ℤ◌, pos, List, length, slice_index}
use Rattle.spec_document.specs.declared.Rect.{Rect}
use Rattle.spec_document.specs.Rect.{part_above_0}
use Rattle.spec_document.specs.Plane.{Plane, byte_at}
use Rattle.spec_document.specs.Document.{Document}
use Rattle.spec_document.specs.Limits.{IsOffset}
use Rattle.spec_document.specs.Selection.{selected}
use Rattle.spec_edit.specs.Effect.{mixed}
use Rattle.xl_paint.specs.declared.places.Site.{Site}

-- all or nothing, by the half
abbrev pub threshold : ℕ → ℕ
threshold s = if nat_le 128 s then 255 else 0

-- how much of a new byte there is at a point: of an indexed plane all or nothing
abbrev pub weight : Bool → (s : ℕ) → ℕ
weight indexed s = if indexed then threshold s else s

-- the weight at a column and row of a plane that lies there
abbrev pub weight_at : Document → Site → (x y : ℕ) → ℕ
weight_at d site x y = weight site.indexed (selected d (site.x +ℤ pos x) (site.y +ℤ pos y))

-- as near to the canvas as a layer may lie
abbrev pub IsNearby : Site → Type 0
IsNearby site = IsOffset site.x × IsOffset site.y

-- byte c of a column and row of a rectangle of a plane, after these bytes went into it
abbrev pub byte_in : Document → Site → Plane → Rect → (new : ℕ → ℕ → ℕ → ℕ) → (column row c : ℕ) → ℕ
byte_in d site p rect new column row c =
    let x = part_above_0 rect.x + column in
    let y = part_above_0 rect.y + row in
    mixed (weight_at d site x y) (new column row c) (byte_at p x y c)

-- byte c of a column and row of new bytes, but where the alpha of the plane is to stay: the last byte of a pixel
abbrev pub but_alpha_in : (keeps : Bool) → Plane → Rect → (new : ℕ → ℕ → ℕ → ℕ) → (column row c : ℕ) → ℕ
but_alpha_in keeps p rect new column row c =
    if keeps && c == p.bpp - 1 then byte_at p (part_above_0 rect.x + column) (part_above_0 rect.y + row) c else new column row c

-- byte c of a column and row of rows of pixels, each of which begins so many bytes behind the one above it
abbrev pub in_rows : (step bpp : ℕ) → List ℕ → (column row c : ℕ) → ℕ
in_rows step bpp bytes column row c = slice_index bytes (row * step + (column * bpp + c))

-- there are so many such rows
abbrev pub HasRows : (w h n step : ℕ) → List ℕ → Type 0
HasRows w h n step bytes = (row : ℕ) → row < h → row * step + w * n ≤ length bytes

-- so many rows of pixels of n bytes, with this byte at each column and row
pub record AreRows (w h n : ℕ) (byte : ℕ → ℕ → ℕ → ℕ) (bytes : List ℕ) : Type 0 where
  pub size : length bytes ≡ h * (w * n)
  pub each : (column row c : ℕ) → column < w → row < h → c < n
      → slice_index bytes (row * (w * n) + (column * n + c)) ≡ byte column row c
