-- How a core keeps its shelf: it is in, or out for a save.
use Rattle.std.specs.Prelude.{◌≡◌, ℕ, ◌+◌, ◌≤◌, List, length, map, Option, Some, None, IsSome}
use Rattle.std.specs.declared.snapshot.Snapshot.{Snapshot}
use Rattle.spec_document.specs.Document.{Document}
use Rattle.spec_history.specs.Machine.{Saving}
use Rattle.spec_history.specs.History.{Entry, replay}
use Rattle.spec_world.specs.World.{entries_owed}
use Rattle.spec_saves.specs.Names.{saves_started}
use Rattle.spec_saves.specs.Shelf.{ShelfIsRight}
use Rattle.xl_history.specs.Editing.{last_of}
use Rattle.xl_history.specs.declared.saving.ShelfPlace.{ShelfPlace}
use Rattle.xl_history.specs.declared.saving.ShelfPlace.TheVariants.{In, Out}
use Rattle.xl_ports.specs.State.{ShelfState}

-- what was seen
abbrev pub all_seen : {K : Type 0} → List (Snapshot K) → List K
all_seen seen = map (λ s. s.value) seen

-- the shelf, where it is in
abbrev pub shelf_in : {K : Type 0} → ShelfPlace K → Option K
shelf_in (In k) = Some k
shelf_in (Out index version) = None

-- the shelf as it is, or as it was handed out
abbrev pub at_hand : {K : Type 0} → (opening : K) → (handed : List K) → ShelfPlace K → K
at_hand opening handed (In k) = k
at_hand opening handed (Out index version) = last_of opening handed

-- the shelf is out exactly where a save is
abbrev pub IsPlace : {K : Type 0} → ShelfPlace K → Option Saving → Type 0
IsPlace (In k) None = Unit {0}
IsPlace (In k) (Some out) = ⊥
IsPlace (Out index version) None = ⊥
IsPlace (Out index version) (Some out) = (index ≡ out.index) × (version ≡ out.version)

-- The shelf is in its place and is right, or was as it was handed out; a name was selected when the document was opened; and there is
-- room for the entry that a save owes.
pub record Holds {K : Type 0} (see : K
    → ShelfState) (base : Document) (entries : List Entry) (opening : K) (handed : List K) (place : ShelfPlace K) (room : ℕ) : Type 0 where
  pub place_is : IsPlace place (replay base entries).out
  pub right : ShelfIsRight (see opening) base entries (see (at_hand opening handed place))
  pub selected : IsSome (see opening).selected
  pub each_start : length handed ≡ saves_started entries
  pub room_owed : length entries + entries_owed (replay base entries).out ≤ room
