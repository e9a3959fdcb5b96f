-- What the file may hold after a history, by name: what it held at the opening, or versions that were saved.
use Rattle.std.specs.Prelude.{ℕ, Bool, true, false, List, [], ◌∷◌, ◌++◌, fold, flat_map, count_by, Option, Some, None}
use Rattle.spec_document.specs.Document.{Document}
use Rattle.spec_history.specs.Machine.{Reply, changed, refused, moved, nothing_to_undo, nothing_to_redo, not_top}
use Rattle.spec_history.specs.Machine.{tile_of, stale, no_stack, outside_tile, top_is, saved, save_fault, save_memory}
use Rattle.spec_history.specs.Machine.{history_full, is_save_fault, Saving}
use Rattle.spec_history.specs.History.{Kind, asked, starts, ends, Entry, replay}

-- what the file held at the opening, or this version of the document
pub data Named : Type 0 where
  the_old : Named
  version : (v : ℕ) → Named

-- ---- the names after a history

-- A save that is done leaves its version alone. One that failed may have left it too; it is named once more where it
-- is there already.
abbrev pub after_end : List Named → Reply → List Named
after_end ns (saved v) = version v ∷ []
after_end ns (save_fault v) = ns ++ version v ∷ []
after_end ns (save_memory v) = ns
after_end ns (changed new group next) = ns
after_end ns (refused index cause) = ns
after_end ns (moved now) = ns
after_end ns nothing_to_undo = ns
after_end ns nothing_to_redo = ns
after_end ns (not_top top) = ns
after_end ns (tile_of shown) = ns
after_end ns (stale have seen) = ns
after_end ns (no_stack node) = ns
after_end ns outside_tile = ns
after_end ns (top_is group now) = ns
after_end ns history_full = ns

-- only the end of a save changes the names
abbrev pub after_kind : List Named → Kind → Reply → List Named
after_kind ns (asked call tables) reply = ns
after_kind ns starts reply = ns
after_kind ns ends reply = after_end ns reply

abbrev pub after_one : List Named → Entry → List Named
after_one ns e = after_kind ns e.kind e.reply

-- the names of what the file may hold, no save being out
abbrev pub names : List Entry → List Named
names es = fold after_one (the_old ∷ []) es

-- a save that is out may have left its version too
abbrev pub with_out : List Named → Option Saving → List Named
with_out ns None = ns
with_out ns (Some out) = ns ++ version out.version ∷ []

-- the names of what the file may hold
abbrev pub files : Document → List Entry → List Named
files base es = with_out (names es) (replay base es).out

-- ---- what is counted along a history

-- the version that a save may have left which ended so; one that found no memory left none
abbrev pub version_left : Reply → List ℕ
version_left (saved v) = v ∷ []
version_left (save_fault v) = v ∷ []
version_left (save_memory v) = []
version_left (changed new group next) = []
version_left (refused index cause) = []
version_left (moved now) = []
version_left nothing_to_undo = []
version_left nothing_to_redo = []
version_left (not_top top) = []
version_left (tile_of shown) = []
version_left (stale have seen) = []
version_left (no_stack node) = []
version_left outside_tile = []
version_left (top_is group now) = []
version_left history_full = []

abbrev pub versions_of : Kind → Reply → List ℕ
versions_of (asked call tables) reply = []
versions_of starts reply = []
versions_of ends reply = version_left reply

-- the versions that ended saves may have left
abbrev pub saved_versions : List Entry → List ℕ
saved_versions es = flat_map (λ e. versions_of e.kind e.reply) es

abbrev pub ends_by_fault : Kind → Reply → Bool
ends_by_fault (asked call tables) reply = false
ends_by_fault starts reply = false
ends_by_fault ends reply = is_save_fault reply

-- how many saves ended by a fault
abbrev pub save_faults : List Entry → ℕ
save_faults es = count_by (λ e. ends_by_fault e.kind e.reply) es

abbrev pub is_start : Kind → Bool
is_start (asked call tables) = false
is_start starts = true
is_start ends = false

-- how many saves started
abbrev pub saves_started : List Entry → ℕ
saves_started es = count_by (λ e. is_start e.kind) es

abbrev pub version_out : Option Saving → ℕ
version_out None = 0
version_out (Some out) = out.version

-- the version of the save that is out
abbrev pub out_version : Document → List Entry → ℕ
out_version base es = version_out (replay base es).out
