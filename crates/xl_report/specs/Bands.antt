-- Bands of 64 rows, one after another.
use Rattle.std.specs.Prelude.{◌≡◌, ◌≤◌, ℕ, ◌+◌, ◌-◌, ◌*◌, min, List, length, take}
use Rattle.spec_document.specs.Document.{Document}
use Rattle.spec_document.specs.Picture.{picture_bytes}
use Rattle.xl_compose.specs.Depth.{Reach, levels_below}

-- the row at which the band of a place begins, where the first one begins at `first`; behind the last row it is the height
abbrev pub row_of : (height first place : ℕ) → ℕ
row_of height first place = min height (first + 64 * place)

-- there is room for a band of the picture of a document
pub record HasRoom (d : Document) (composer : Reach) (bytes : List ℕ) : Type 0 where
  pub wide : composer.width ≡ d.width
  pub deep : composer.levels ≡ levels_below d 0
  pub room : length bytes ≡ 4 * (d.width * 64)

-- the first so many bytes are the band of a place, and there is room as before
pub record IsBand (d : Document) (first place : ℕ) (composer : Reach) (used : ℕ) (bytes : List ℕ) : Type 0 where
  pub stays : HasRoom d composer bytes
  pub within : used ≤ length bytes
  pub shows : take used bytes ≡ picture_bytes d 0 0 (row_of d.height first place) d.width
      (row_of d.height first (place + 1) - row_of d.height first place)
