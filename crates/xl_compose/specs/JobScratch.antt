-- What a job holds.
use Rattle.std.specs.Prelude.{◌≡◌, ℕ, ◌+◌, ◌-◌, ◌*◌, ◌≤◌, min, List}
use Rattle.spec_document.specs.declared.TileAt.{TileAt}
use Rattle.spec_document.specs.Document.{Document}
use Rattle.xl_compose.specs.declared.pieces.Piece.{Piece}
use Rattle.xl_compose.specs.declared.span.Band.{Band}
use Rattle.spec_document.specs.Picture.{project}
use Rattle.xl_compose.specs.Cost.{visible_below}
use Rattle.xl_compose.specs.Levels.{points}
use Rattle.xl_compose.specs.Pieces.{AllFit, composed, weights}
use Rattle.spec_document.specs.declared.TheConstants.{MAX_SIDE}

-- the tile is on the canvas
pub record IsTile (band : Band) : Type 0 where
  pub right : band.x + band.w ≤ MAX_SIDE
  pub below : band.y + band.h ≤ MAX_SIDE
  pub wide : band.w ≤ 64
  pub high : band.h ≤ 64
  pub some : 1 ≤ band.h

-- all pieces are on so many levels, and there is capacity for the pictures of these, for one picture more and for all bytes that
-- laying them needs; nothing is said of what is written there
pub record IsReady (band : Band) (levels : ℕ) (pieces : List Piece) (scratch source bytes : ℕ) : Type 0 where
  pub tile : IsTile band
  pub some : 1 ≤ levels
  pub deep : levels ≤ 10
  pub fit : AllFit levels band pieces
  pub scratch_taken : levels * points band ≤ scratch
  pub source_taken : points band ≤ source
  pub bytes_taken : 32768 + 320 * band.w ≤ bytes

-- the tile of a document
abbrev pub tile_band : Document → TileAt → Band
tile_band d at =
    record { x = 64 * at.col; y = 64 * at.row; w = min 64 (d.width - 64 * at.col); h = min 64 (d.height - 64 * at.row) }

-- pieces on so many levels that make the picture of a stack of a document
pub record AreFor (deep : ℕ) (d : Document) (stack : ℕ) (at : TileAt) (pieces : List Piece) : Type 0 where
  pub fit : AllFit deep (tile_band d at) pieces
  pub shows : composed d.colours (tile_band d at) pieces ≡ project d stack at
  pub cost : weights pieces ≤ visible_below d stack
