-- Jobs for tiles that are named.
use Rattle.std.specs.Prelude.{◌≡◌, ℕ, Bool, true, false, not, ◌&&◌, Option, Some, None}
use Rattle.spec_document.specs.declared.TileAt.{TileAt}
use Rattle.spec_document.specs.Grid.{is_on_grid}
use Rattle.spec_document.specs.Document.{Document}
use Rattle.spec_cache.specs.Cache.{Cache, is_clean}
use Rattle.spec_history.specs.Machine.{has_stack}
use Rattle.xl_compose.specs.Job.{Job, StandsFor}
use Rattle.xl_desk.specs.Needs.{tile_cost}

-- the document has the stack, its canvas the tile, and the slot of that is marked
abbrev pub is_marked : Document → Cache → (stack : ℕ) → TileAt → Bool
is_marked d cache stack at = has_stack d stack && (is_on_grid d.width d.height at && not (is_clean cache stack at))

-- the job is a marked tile's, and takes the kept pictures of clean groups as they are
pub record IsJobFor (d : Document) (cache : Cache) (version stack : ℕ) (at : TileAt) (job : Job) : Type 0 where
  pub marked : is_marked d cache stack at ≡ true
  pub stands : StandsFor d stack at version job
  pub cost : job.cost ≡ tile_cost cache d stack at

-- there is a job exactly where the tile is marked
abbrev pub GivesJob : Document → Cache → (version stack : ℕ) → TileAt → Option Job → Type 0
GivesJob d cache version stack at None = is_marked d cache stack at ≡ false
GivesJob d cache version stack at (Some job) = IsJobFor d cache version stack at job
