-- The filters of the sessions, and what a line asks of them.
use Rattle.std.specs.Prelude.{◌≡◌, ℕ, ◌<◌, true, List, [], length, Vec, Option, option_map, unwrap_or, slice_get, IsTrue}
use Rattle.std.specs.declared.alloc.Global.{Global}
use Rattle.spec_filters.specs.declared.FilterState.{FilterState}
use Rattle.spec_filters.specs.Slots.{has_slot}
use Rattle.spec_history.specs.Calls.{IsCall}
use Rattle.spec_history.specs.Limited.{edits_of}
use Rattle.spec_script.specs.Script.{Line, call, save, forget}
use Rattle.spec_tables.specs.Agrees.{AreThere}

-- the boxes of a session, none past the last list
abbrev pub boxes_at : {B : Type 0} → List (Vec B Global) → (session : ℕ) → List B
boxes_at lists session = unwrap_or (option_map (λ boxes. boxes.items) (slice_get lists session)) []

-- a line whose call is within its type, and whose filters are in the chest
abbrev pub FitsChest : List (Option FilterState) → Line → Type 0
FitsChest chest (call c) = IsCall c × AreThere chest (edits_of c)
FitsChest chest save = Unit {0}
FitsChest chest (forget slot) = IsTrue (has_slot chest slot)

-- no filter was dropped
abbrev pub HasAll : List (Option FilterState) → Type 0
HasAll chest = (slot : ℕ) → slot < length chest → has_slot chest slot ≡ true
