-- The picture of a tile, with its sides.
use Rattle.std.specs.Prelude.{◌≡◌, ℕ, ◌*◌, ◌≤◌, List, length}
use Rattle.spec_document.specs.Document.{Document}
use Rattle.spec_document.specs.declared.TileAt.{TileAt}
use Rattle.spec_document.specs.Grid.{tile_rect}
use Rattle.spec_document.specs.Picture.{project}

-- the sides in pixels, and the bytes row by row
pub record TilePicture : Type 0 where
  pub width : ℕ
  pub height : ℕ
  pub bytes : List ℕ

-- the tile has pixels, 64 by 64 at most, of four bytes each
pub record IsTilePicture (p : TilePicture) : Type 0 where
  pub columns : 1 ≤ p.width
  pub rows : 1 ≤ p.height
  pub width : p.width ≤ 64
  pub height : p.height ≤ 64
  pub bytes : length p.bytes ≡ 4 * (p.width * p.height)

-- what a tile that is on the canvas shows
abbrev pub tile_picture : Document → (stack : ℕ) → TileAt → TilePicture
tile_picture d stack at = record {
  width = (tile_rect d.width d.height at).w;
  height = (tile_rect d.width d.height at).h;
  bytes = project d stack at;
}
