-- The versions of the saves that were acknowledged.
use Rattle.std.specs.Prelude.{ℕ, List, Option, Some, None}
use Rattle.std.specs.List.{filter_map}
use Rattle.spec_history.specs.Machine.{Reply, changed, refused, moved, nothing_to_undo, nothing_to_redo, not_top}
use Rattle.spec_history.specs.Machine.{tile_of, stale, no_stack, outside_tile, top_is, saved, save_fault, save_memory}
use Rattle.spec_history.specs.Machine.{history_full}
use Rattle.spec_history.specs.History.{Kind, asked, starts, ends, Entry}

-- the version that a reply says is saved
abbrev pub version_saved : Reply → Option ℕ
version_saved (saved v) = Some v
version_saved (save_fault v) = None
version_saved (save_memory v) = None
version_saved (changed new group next) = None
version_saved (refused index cause) = None
version_saved (moved now) = None
version_saved nothing_to_undo = None
version_saved nothing_to_redo = None
version_saved (not_top top) = None
version_saved (tile_of shown) = None
version_saved (stale have seen) = None
version_saved (no_stack node) = None
version_saved outside_tile = None
version_saved (top_is group now) = None
version_saved history_full = None

-- A save is acknowledged at its end. At its start the same reply only names the version.
abbrev pub acknowledged : Kind → Reply → Option ℕ
acknowledged (asked call tables) reply = None
acknowledged starts reply = None
acknowledged ends reply = version_saved reply

-- the versions of the acknowledged saves, in their order
abbrev pub acknowledged_versions : List Entry → List ℕ
acknowledged_versions es = filter_map (λ e. acknowledged e.kind e.reply) es
