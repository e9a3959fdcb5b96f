-- The kept pictures where only tile calls give any, and no job does: each is just the one that has to be kept.
use Rattle.std.specs.Prelude.{◌≡◌, ℕ, List}
use Rattle.spec_document.specs.declared.TileAt.{TileAt}
use Rattle.spec_document.specs.Document.{Document}
use Rattle.spec_cache.specs.Slots.{Slot}
use Rattle.spec_history.specs.Machine.{peek, latest, answer}
use Rattle.spec_history.specs.History.{Entry}
use Rattle.spec_history.specs.Kept.{kept}
use Rattle.spec_history.specs.Slots.{IsExactSlot, kept_peek}
use Rattle.spec_world.specs.World.{World, first_world}
use Rattle.spec_world.specs.Events.{Event, submits, takes, finishes, begins_save, ends_save, where_tile, reply_to, MayHappen, after}
use Rattle.spec_world.specs.Right.{EachSlot, IsRight}

-- after the entries, the slot keeps just what has to be kept of its tile
abbrev pub SlotIsExact : Document → List Entry → (stack : ℕ) → TileAt → Slot → Type 0
SlotIsExact base es stack at slot = IsExactSlot base es stack at slot.picture slot.good_to slot.marked slot.marked_at

abbrev pub SlotsAreExact : Document → World → Type 0
SlotsAreExact base w = EachSlot w (SlotIsExact base w.entries)

-- any event but the result of a job
abbrev pub BringsNoResult : Event → Type 0
BringsNoResult (submits session call seen tables) = Unit {0}
BringsNoResult takes = Unit {0}
BringsNoResult (finishes number) = ⊥
BringsNoResult (begins_save session) = Unit {0}
BringsNoResult (ends_save session how) = Unit {0}

-- a document is opened with such slots
abbrev pub StartsExact : Document → Type 0
StartsExact base = SlotsAreExact base (first_world base)

-- and each such event leaves them so
abbrev pub StaysExact : Document → Type 0
StaysExact base =
    (w : World) (event : Event) → IsRight base w → SlotsAreExact base w → MayHappen w event → BringsNoResult event
    → SlotsAreExact base (after base w event)

-- To a caller that has seen the latest version, a peek of a tile that is there answers just what has to be kept.
abbrev pub AnswersExactly : Document → Type 0
AnswersExactly base =
    (w : World) (stack : ℕ) (at : TileAt) (tables : List (List ℕ)) → IsRight base w → SlotsAreExact base w
    → reply_to base w (peek stack at) (latest w.state) tables
    ≡ where_tile (answer base w.state (peek stack at) tables).reply (kept_peek (kept base w.entries stack at) (latest w.state))
