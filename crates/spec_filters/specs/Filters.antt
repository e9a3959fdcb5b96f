-- The tables of the filters, and how often each was used.
use Rattle.std.specs.Prelude.{ℕ, ◌+◌, ◌-◌, ◌*◌, ◌/◌, ◌^◌, max, min, nat_le, if◌then◌else◌, List, map}
use Rattle.spec_document.specs.Blend.{mul}
use Rattle.spec_document.specs.Rect.{count_from}
use Rattle.spec_filters.specs.declared.FilterKind.{FilterKind}
use Rattle.spec_filters.specs.declared.FilterKind.TheVariants.{Invert, Threshold, Posterize, Fade}
use Rattle.spec_filters.specs.declared.FilterState.{FilterState}

-- the nearest of so many levels, of which the first is 0 and the last 255; for 2 to 255 levels
abbrev pub posterize_byte : (levels : ℕ) → (b : ℕ) → ℕ
posterize_byte n b = (510 * mul b (n - 1) + (n - 1)) / (2 * (n - 1))

-- what a filter makes of a byte
abbrev pub table_byte : FilterKind → (amount uses b : ℕ) → ℕ
table_byte Invert amount uses b = 255 - b
table_byte Threshold amount uses b = if nat_le amount b then 255 else 0
table_byte Posterize amount uses b = posterize_byte (max 2 amount) b
table_byte Fade amount uses b = mul b (255 - min 255 (uses * amount))

-- the table of a filter in a state
unfoldable pub table_of : FilterState → List ℕ
table_of f = map (table_byte f.kind f.amount f.uses) (count_from 0 256)

-- the state after one use more, up to the last number of 32 bits
abbrev pub after_use : FilterState → FilterState
after_use f = record f { uses = min (f.uses + 1) (2 ^ 32 - 1) }
