-- The tiles of a plane in bands: a band is a row of tiles, and is read by itself.
use Rattle.std.specs.Prelude.{◌≡◌, ℕ, zero, suc, ◌+◌, ◌*◌, ◌<◌, List, [], ◌++◌, length, map, slice_index_or, Result, Ok, Err}
use Rattle.std.specs.List.{AllByRecursion}
use Rattle.spec_document.specs.declared.TileAt.{TileAt}
use Rattle.spec_document.specs.Rect.{count_from}
use Rattle.spec_document.specs.Grid.{tiles_along}
use Rattle.spec_document.specs.Limits.{AreBytes}
use Rattle.spec_fields.specs.Reading.{Read, ◌>>=◌}
use Rattle.spec_hierarchy.specs.Reading.{tiles_at}
use Rattle.spec_hierarchy.specs.Tiles.{tile_width, tile_height}
use Rattle.xl_fields.specs.declared.refusal.ReadRefusedOrMemory.{ReadRefusedOrMemory}
use Rattle.xl_fields.specs.declared.refusal.ReadRefusedOrMemory.TheVariants.{Memory, Refused}
use Rattle.xl_tiles.specs.Behind.{behind}
use Rattle.xl_hier.specs.declared.frame.Frame.{Frame}

-- the tiles of a row
abbrev pub row_tiles : (width row : ℕ) → List TileAt
row_tiles width row = map (λ col. record { col = col; row = row }) (count_from 0 (tiles_along width))

-- what the band of a row gives, where the pointers to all tiles begin at an offset
abbrev pub band_at : (file : List ℕ) (first : ℕ) → Frame → (row : ℕ) → Read (List (List ℕ))
band_at file first f row =
    tiles_at (row_tiles f.width row) file (first + 4 * (row * tiles_along f.width)) f.width f.height f.bpp f.compression

-- what n bands from a row on give: their tiles one behind another, or the first fault of the first that has one
unfoldable pub bands_from : (n : ℕ) → (file : List ℕ) (first : ℕ) → Frame → (row : ℕ) → Read (List (List ℕ))
bands_from zero file first f row = Ok []
bands_from (suc n) file first f row = do
  band ← band_at file first f row
  behind band (bands_from n file first f (suc row))

-- how many bytes the tile in a column and a row is to have
abbrev pub tile_size : Frame → (col row : ℕ) → ℕ
tile_size f col row =
    let spot : TileAt = record { col = col; row = row } in
    tile_width f.width spot * tile_height f.height spot * f.bpp

-- a band is read, and each of its tiles has as many bytes as it is to have
pub record IsBand (file : List ℕ) (first : ℕ) (f : Frame) (row : ℕ) (band : List (List ℕ)) : Type 0 where
  pub count : length band ≡ tiles_along f.width
  pub reads : band_at file first f row ≡ Ok band
  pub sizes : (col : ℕ) → col < tiles_along f.width → length (slice_index_or band col []) ≡ tile_size f col row
  pub bytes : AllByRecursion AreBytes band

-- a band is appended, or that is its first fault, or memory ran out
abbrev pub BandRead : (file : List ℕ) (first : ℕ) → Frame → (row : ℕ) → (old new : List (List ℕ))
    → Result (Unit {0}) ReadRefusedOrMemory → Type 0
BandRead file first f row old new (Ok done) = (band : List (List ℕ)) × IsBand file first f row band × (new ≡ old ++ band)
BandRead file first f row old new (Err Memory) = Unit {0}
BandRead file first f row old new (Err (Refused e)) = band_at file first f row ≡ Err e
