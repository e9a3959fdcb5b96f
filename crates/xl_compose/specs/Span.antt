-- Where a column of the canvas stands in a layer.
use Rattle.std.specs.Prelude.{ℕ, ◌+◌, ◌-◌, ◌&&◌, nat_le, nat_lt, ℤ, pos, ◌+ℤ◌, ◌-ℤ◌, int_le, int_lt, Option, Some}
use Rattle.std.specs.Prelude.{None, if◌then◌else◌}
use Rattle.spec_document.specs.Rect.{part_above_0}

-- the column, counted from where the layer begins, where it has so many
abbrev pub place : (first : ℤ) → (len : ℕ) → (column : ℕ) → Option ℕ
place first len column =
    if int_le first (pos column) && int_lt (pos column) (first +ℤ pos len) then Some (part_above_0 (pos column -ℤ first)) else None

-- the same, where the common columns are known: those behind skip columns of a row, so many from a column of the layer on
abbrev pub place_by : (skip from count : ℕ) → (k : ℕ) → Option ℕ
place_by skip from count k = if nat_le skip k && nat_lt k (skip + count) then Some (from + (k - skip)) else None
