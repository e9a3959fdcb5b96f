-- What lies under the lock, as contracts see it.
use Rattle.std.specs.Prelude.{◌≡◌, ◌≤◌, Bool, List, length, None, IsSome}
use Rattle.spec_history.specs.declared.TheConstants.{MAX_ENTRIES}
use Rattle.spec_world.specs.Right.{IsRight}
use Rattle.spec_saves.specs.Names.{saves_started}
use Rattle.xl_history.specs.Editing.{Editing, world, out_of}
use Rattle.xl_studio.specs.declared.moment.Moment.{Moment}
use Rattle.xl_studio.specs.Moments.{moments}

-- a core, and whether no more jobs are given out
pub record State (K : Type 0) : Type 0 where
  pub core : Editing K
  pub closing : Bool

-- what a core keeps at every moment: its history and its pictures are right, each start has handed a shelf out, and where the shelf is
-- in no save is out
pub record IsKept {K : Type 0} (c : Editing K) : Type 0 where
  pub right : IsRight c.history.base (world c)
  pub few : length c.history.entries ≤ MAX_ENTRIES
  pub each_start : length c.handed ≡ saves_started c.history.entries
  pub shelf_in : IsSome c.shelf → out_of c.history ≡ None

-- the opening, and each entry
abbrev pub moments_of : {K : Type 0} → Editing K → List (Moment K)
moments_of c = moments c.history.base c.opening c.handed c.history.entries
