-- Histories whose calls, or at least whose edits, are within their types.
use Rattle.std.specs.Prelude.{ℕ, ◌≤◌, List, [], length, count_by, sum_by}
use Rattle.std.specs.List.{AllByRecursion}
use Rattle.spec_document.specs.Limits.{AreBytes}
use Rattle.spec_edit.specs.Edit.{Edit, IsEdit}
use Rattle.spec_edit.specs.Effect.{makes_node}
use Rattle.spec_history.specs.Machine.{Call, edit, undo, redo, tile, peek, top}
use Rattle.spec_history.specs.History.{Entry, Kind, asked, starts, ends}
use Rattle.spec_history.specs.Calls.{IsCall}

-- ---- edits

-- Each edit is within its type, and each table that a filter answered has bytes. How many edits there are is left open.
abbrev pub HasEdits : Call → (tables : List (List ℕ)) → Type 0
HasEdits (edit guard edits) tables = AllByRecursion IsEdit edits × AllByRecursion AreBytes tables
HasEdits (undo named) tables = Unit {0}
HasEdits redo tables = Unit {0}
HasEdits (tile stack at) tables = Unit {0}
HasEdits (peek stack at) tables = Unit {0}
HasEdits top tables = Unit {0}

abbrev pub AsksEdits : Kind → Type 0
AsksEdits (asked call tables) = HasEdits call tables
AsksEdits starts = Unit {0}
AsksEdits ends = Unit {0}

abbrev pub AreEdits : List Entry → Type 0
AreEdits es = AllByRecursion (λ e. AsksEdits e.kind) es

-- the edits of a call
abbrev pub edits_of : Call → List Edit
edits_of (edit guard edits) = edits
edits_of (undo named) = []
edits_of redo = []
edits_of (tile stack at) = []
edits_of (peek stack at) = []
edits_of top = []

abbrev pub edits_in : Kind → List Edit
edits_in (asked call tables) = edits_of call
edits_in starts = []
edits_in ends = []

-- how many ids a history may use up
abbrev pub ids_asked : List Entry → ℕ
ids_asked es = sum_by (λ e. count_by makes_node (edits_in e.kind)) es

-- no group has more edits than this
abbrev pub AreGroupsUpTo : (limit : ℕ) → List Entry → Type 0
AreGroupsUpTo limit es = AllByRecursion (λ e. length (edits_in e.kind) ≤ limit) es

-- ---- calls

-- the call is within its type, and each table that a filter answered has bytes
abbrev pub AsksCall : Kind → Type 0
AsksCall (asked call tables) = IsCall call × AllByRecursion AreBytes tables
AsksCall starts = Unit {0}
AsksCall ends = Unit {0}

abbrev pub AreCalls : List Entry → Type 0
AreCalls es = AllByRecursion (λ e. AsksCall e.kind) es
