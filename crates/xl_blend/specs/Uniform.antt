-- Rows of one pixel throughout.
use Rattle.std.specs.Prelude.{◌≡◌, ℕ, ◌<◌, List, length, slice_index_or}
use Rattle.spec_document.specs.declared.Pixel.{Pixel}
use Rattle.spec_document.specs.Over.{clear}

-- the pixel at a place is the first
abbrev pub IsFirstAt : ℕ → List Pixel → Type 0
IsFirstAt k row = slice_index_or row k clear ≡ slice_index_or row 0 clear

-- each pixel is the first
abbrev pub IsUniform : List Pixel → Type 0
IsUniform row = (k : ℕ) → k < length row → IsFirstAt k row
