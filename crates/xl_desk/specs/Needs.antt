-- What a call needs: steps, and memory.
use Rattle.std.specs.Prelude.{◌≡◌, ℕ, ◌*◌, true}
use Rattle.spec_document.specs.declared.TileAt.{TileAt}
use Rattle.spec_document.specs.Document.{Document}
use Rattle.spec_cache.specs.Cache.{Cache, is_clean, clean_tile}
use Rattle.spec_history.specs.Machine as machine
use Rattle.spec_history.specs.Machine.{Call}
use Rattle.xl_compose.specs.Cost.{laid_below, visible_below, tile_points}

-- every call but a tile, and the tile whose slot is clean
abbrev pub TakesNoStep : Cache → Call → Type 0
TakesNoStep cache (machine.tile stack at) = is_clean cache stack at ≡ true
TakesNoStep cache (machine.edit guard edits) = Unit {0}
TakesNoStep cache (machine.undo named) = Unit {0}
TakesNoStep cache machine.redo = Unit {0}
TakesNoStep cache (machine.peek stack at) = Unit {0}
TakesNoStep cache machine.top = Unit {0}

-- How many steps it takes to compose a tile: one for each pixel of it and each visible node that is laid. The picture of a clean
-- group is taken as it is kept.
abbrev pub tile_cost : Cache → Document → (stack : ℕ) → TileAt → ℕ
tile_cost cache d stack at = laid_below (λ id. clean_tile cache id at) d stack * tile_points d at

-- how many steps a call takes at most
abbrev pub call_cost : Cache → Document → Call → ℕ
call_cost cache d (machine.tile stack at) = tile_cost cache d stack at
call_cost cache d (machine.edit guard edits) = 0
call_cost cache d (machine.undo named) = 0
call_cost cache d machine.redo = 0
call_cost cache d (machine.peek stack at) = 0
call_cost cache d machine.top = 0

-- and whatever is kept
abbrev pub most_cost : Document → Call → ℕ
most_cost d (machine.tile stack at) = visible_below d stack * tile_points d at
most_cost d (machine.edit guard edits) = 0
most_cost d (machine.undo named) = 0
most_cost d machine.redo = 0
most_cost d (machine.peek stack at) = 0
most_cost d machine.top = 0

-- the call is an undo or a redo
abbrev pub IsUndoOrRedo : Call → Type 0
IsUndoOrRedo (machine.edit guard edits) = ⊥
IsUndoOrRedo (machine.undo named) = Unit {0}
IsUndoOrRedo machine.redo = Unit {0}
IsUndoOrRedo (machine.tile stack at) = ⊥
IsUndoOrRedo (machine.peek stack at) = ⊥
IsUndoOrRedo machine.top = ⊥
