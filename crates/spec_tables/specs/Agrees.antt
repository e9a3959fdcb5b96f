-- A chest of filters, from which some were forgotten, beside the list of all filters of its session.
use Rattle.std.specs.Prelude.{◌≡◌, ℕ, Bool, if◌then◌else◌, List, [], ◌∷◌, map, take, Option, Some, None, is_some, IsTrue}
use Rattle.spec_edit.specs.Edit.{Edit, slot_of}
use Rattle.spec_history.specs.Machine.{Call, Reply}
use Rattle.spec_history.specs.Limited.{edits_of}
use Rattle.spec_filters.specs.declared.FilterState.{FilterState}
use Rattle.spec_filters.specs.Slots.{has_slot}
use Rattle.spec_tables.specs.Tables.{edits_made, tables_for, used_by}

-- the chest has as many slots, and where a filter is in a slot it is in the state of the list
abbrev pub Agrees : (chest : List (Option FilterState)) → (filters : List FilterState) → Type 0
Agrees [] [] = Unit {0}
Agrees [] (state ∷ states) = ⊥
Agrees (slot ∷ slots) [] = ⊥
Agrees (None ∷ slots) (state ∷ states) = Agrees slots states
Agrees (Some filter ∷ slots) (state ∷ states) = (filter ≡ state) × Agrees slots states

-- the filter of this slot, if any, is in the chest, and the others are there
abbrev pub BesideSlot : (chest : List (Option FilterState)) → Option ℕ → (others : Type 0) → Type 0
BesideSlot chest None others = others
BesideSlot chest (Some slot) others = IsTrue (has_slot chest slot) × others

-- the filters of these edits are in the chest
abbrev pub AreThere : (chest : List (Option FilterState)) → List Edit → Type 0
AreThere chest [] = Unit {0}
AreThere chest (edit ∷ rest) = BesideSlot chest (slot_of edit) (AreThere chest rest)

-- in both chests filters are in the same slots
abbrev pub SameSlots : (old new : List (Option FilterState)) → Type 0
SameSlots old new = map is_some new ≡ map is_some old

-- each filter was asked once for each of these edits that names its slot, and no filter was taken out
pub record IsUsed (old new : List (Option FilterState)) (es : List Edit) : Type 0 where
  pub slots : SameSlots old new
  pub states : (filters : List FilterState) → Agrees old filters → Agrees new (used_by filters es)

-- so it was, and these are the tables that they answered, in order
pub record AreAsked (old new : List (Option FilterState)) (es : List Edit) (tables : List (List ℕ)) : Type 0 where
  pub used : IsUsed old new es
  pub answers : (filters : List FilterState) → Agrees old filters → tables ≡ tables_for filters es

-- What a call leaves of a chest: the filters of a group that is accepted were asked, and no others.
abbrev pub IsAfter : (old new : List (Option FilterState)) → Call → Reply → Type 0
IsAfter old new call reply = IsUsed old new (edits_made call reply)

-- the filters of the first of these edits were asked
abbrev pub IsPartUsed : (old new : List (Option FilterState)) → List Edit → Type 0
IsPartUsed old new es = (count : ℕ) × IsUsed old new (take count es)

-- What a call leaves of a chest where memory runs out in it: the filters of the first edits of a group that is accepted may have been
-- asked, and no others.
abbrev pub IsPartAfter : (accepted : Bool) → (old new : List (Option FilterState)) → Call → Type 0
IsPartAfter accepted old new call = IsPartUsed old new (if accepted then edits_of call else [])
