-- A part of a row laid over the row.
use Rattle.std.specs.Prelude.{◌≡◌, ℕ, ◌+◌, ◌-◌, ◌&&◌, nat_le, nat_lt, List, length, slice_index_or, if◌then◌else◌}
use Rattle.spec_document.specs.declared.Mode.{Mode}
use Rattle.spec_document.specs.declared.Pixel.{Pixel}
use Rattle.spec_document.specs.Over.{over, clear}

abbrev pub pixel : List Pixel → ℕ → Pixel
pixel row k = slice_index_or row k clear

-- each pixel of the part is laid over that of its column, and all others stay
abbrev pub AreLaid : Mode → (skip : ℕ) → (above old new : List Pixel) → Type 0
AreLaid mode skip above old new =
    (k : ℕ) → pixel new k ≡ (if nat_le skip k
    && nat_lt k (skip + length above) then over mode (pixel old k) (pixel above (k - skip)) else pixel old k)
