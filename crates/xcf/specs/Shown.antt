-- What comes of a look at a tile.
use Rattle.std.specs.Prelude.{◌≡◌, ℕ, true, false, Result, Ok, Err}
use Rattle.spec_document.specs.Document.{Document}
use Rattle.spec_document.specs.declared.TileAt.{TileAt}
use Rattle.spec_document.specs.Grid.{is_on_grid}
use Rattle.spec_history.specs.Machine.{has_stack}
use Rattle.xcf.specs.TilePicture.{TilePicture, tile_picture}
use Rattle.xcf.specs.declared.errors.NotShown.{NotShown}
use Rattle.xcf.specs.declared.errors.NotShown.TheVariants.{Memory, NoStack, OutsideTile, Stale, HistoryFull}

-- the picture of the tile, where both are there; or which is not: the stack, or the tile where the stack is there
abbrev pub Shows : Document → (stack : ℕ) → TileAt → Result TilePicture NotShown → Type 0
Shows d stack at (Ok picture) =
    (has_stack d stack ≡ true) × (is_on_grid d.width d.height at ≡ true) × (picture ≡ tile_picture d stack at)
Shows d stack at (Err (NoStack node)) = (node ≡ stack) × (has_stack d stack ≡ false)
Shows d stack at (Err OutsideTile) = (has_stack d stack ≡ true) × (is_on_grid d.width d.height at ≡ false)
Shows d stack at (Err Memory) = Unit {0}
Shows d stack at (Err (Stale have seen)) = ⊥
Shows d stack at (Err HistoryFull) = ⊥
