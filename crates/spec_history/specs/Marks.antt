-- The last version that marks what a cache keeps of a tile.
use Rattle.std.specs.Prelude.{ℕ, zero, suc, ◌-◌, Bool, not, ◌&&◌, ◌||◌, if◌then◌else◌}
use Rattle.spec_document.specs.declared.TileAt.{TileAt}
use Rattle.spec_document.specs.Document.{Document}
use Rattle.spec_history.specs.Machine.{State, latest, document_at, has_stack}
use Rattle.spec_history.specs.Kept.{damaged_at}

-- the stack is there, and was not at the version before
abbrev pub came_at : Document → State → (stack : ℕ) → (version : ℕ) → Bool
came_at base s stack version =
    has_stack (document_at base s version) stack && not (has_stack (document_at base s (version - 1)) stack)

-- whether a version marks what is kept of a tile
abbrev pub marks : Document → State → (stack : ℕ) → TileAt → (version : ℕ) → Bool
marks base s stack at version = came_at base s stack version || damaged_at base s stack at version

-- the last number from 1 to n that passes, or 0
abbrev pub last_of : (ℕ → Bool) → (n : ℕ) → ℕ
last_of test zero = zero
last_of test (suc n) = if test (suc n) then suc n else last_of test n

-- the last version that marks the tile, or 0
abbrev pub marked_at : Document → State → (stack : ℕ) → TileAt → ℕ
marked_at base s stack at = last_of (marks base s stack at) (latest s)
