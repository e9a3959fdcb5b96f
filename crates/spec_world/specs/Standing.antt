-- What holds of a world after each event, slot by slot: more than is told of it, so that it holds after the next event too.
use Rattle.std.specs.Prelude.{◌≡◌, ℕ, ◌≤◌, true, IfSome}
use Rattle.std.specs.List.{AllByRecursion}
use Rattle.spec_document.specs.declared.TileAt.{TileAt}
use Rattle.spec_document.specs.Grid.{is_on_grid}
use Rattle.spec_document.specs.Document.{Document}
use Rattle.spec_cache.specs.Cache.{IsCache, has_slots}
use Rattle.spec_history.specs.Machine.{State, latest, has_stack}
use Rattle.spec_history.specs.History.{replay}
use Rattle.spec_history.specs.Kept.{IsLegal, last_tile}
use Rattle.spec_world.specs.World.{World, document_now}
use Rattle.spec_world.specs.Right.{EachSlot, IsJob}
use Rattle.spec_world.specs.RightSlot.{IsRightSlot}

-- the last tile call of a tile was of a version that is there, and of a tile on the canvas
pub record WasShown (base : Document) (s : State) (at : TileAt) (version : ℕ) : Type 0 where
  pub there : version ≤ latest s
  pub on_grid : is_on_grid base.width base.height at ≡ true

pub record IsStanding (base : Document) (w : World) : Type 0 where
  pub legal : IsLegal base w.entries
  pub replayed : w.state ≡ replay base w.entries
  pub slots : IsCache base.width base.height w.cache
  pub stacks : (stack : ℕ) → has_slots w.cache stack ≡ has_stack (document_now base w.state) stack
  pub seen : (stack : ℕ) (at : TileAt) → IfSome (last_tile stack at w.entries) (WasShown base w.state at)
  pub each : EachSlot w (λ stack at slot. IsRightSlot base w.state stack at (last_tile stack at w.entries) slot)
  pub jobs : AllByRecursion (IsJob base w.state) w.jobs
