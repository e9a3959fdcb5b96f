-- The tables that the filters of a session answer, and their states along its history.
use Rattle.std.specs.Prelude.{◌≡◌, ℕ, List, [], ◌∷◌, ◌++◌, if◌then◌else◌, slice_get, Option, Some, None, option_map, option_to_list}
use Rattle.spec_edit.specs.Edit.{Edit, slot_of}
use Rattle.spec_edit.specs.Effect.{changed_at}
use Rattle.spec_history.specs.Machine as machine
use Rattle.spec_history.specs.Machine.{Call, Reply}
use Rattle.spec_history.specs.History.{Entry, Kind, asked, starts, ends, is_changed}
use Rattle.spec_filters.specs.declared.FilterState.{FilterState}
use Rattle.spec_filters.specs.Filters.{table_of, after_use}

abbrev pub table_at : List FilterState → (slot : ℕ) → List (List ℕ)
table_at filters slot = option_to_list (option_map table_of (slice_get filters slot))

-- the table of the filter in this slot, if any
abbrev pub table_asked : List FilterState → Option ℕ → List (List ℕ)
table_asked filters None = []
table_asked filters (Some slot) = table_at filters slot

-- the filters once this one was asked, if any
abbrev pub used_once : List FilterState → Option ℕ → List FilterState
used_once filters None = filters
used_once filters (Some slot) = changed_at slot after_use filters

-- the tables that the edits of a group take, one after another
abbrev pub tables_for : List FilterState → List Edit → List (List ℕ)
tables_for filters [] = []
tables_for filters (edit ∷ rest) =
    table_asked filters (slot_of edit) ++ tables_for (used_once filters (slot_of edit)) rest

abbrev pub used_by : List FilterState → List Edit → List FilterState
used_by filters [] = filters
used_by filters (edit ∷ rest) = used_by (used_once filters (slot_of edit)) rest

-- the edits that a call has made which got this reply
abbrev pub edits_made : Call → Reply → List Edit
edits_made (machine.edit guard es) reply = if is_changed reply then es else []
edits_made (machine.undo named) reply = []
edits_made machine.redo reply = []
edits_made (machine.tile stack at) reply = []
edits_made (machine.peek stack at) reply = []
edits_made machine.top reply = []

abbrev pub made_edits : Kind → Reply → List Edit
made_edits (asked c tables) reply = edits_made c reply
made_edits starts reply = []
made_edits ends reply = []

-- an accepted group has the tables of the filters at that place, and no other call has tables
abbrev pub expected_tables : List FilterState → Kind → Reply → List (List ℕ)
expected_tables filters kind reply = tables_for filters (made_edits kind reply)

abbrev pub filters_after : List FilterState → Kind → Reply → List FilterState
filters_after filters kind reply = used_by filters (made_edits kind reply)

abbrev pub tables_in : Kind → List (List ℕ)
tables_in (asked c tables) = tables
tables_in starts = []
tables_in ends = []

-- the filters after these entries of their session
abbrev pub filters_along : List FilterState → List Entry → List FilterState
filters_along filters [] = filters
filters_along filters (e ∷ es) = filters_along (filters_after filters e.kind e.reply) es

-- along the entries of one session
abbrev pub HaveTables : List FilterState → List Entry → Type 0
HaveTables filters [] = Unit {0}
HaveTables filters (e ∷ es) =
    (tables_in e.kind ≡ expected_tables filters e.kind e.reply) × HaveTables (filters_after filters e.kind e.reply) es
