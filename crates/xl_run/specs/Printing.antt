-- The printed lines of a session, made from its entries and the digests of the tiles that it was shown.
use Rattle.std.specs.Prelude.{ℕ, if◌then◌else◌, drop, List, [], ◌∷◌, ◌++◌, flat_map, slice_get, unwrap_or}
use Rattle.spec_document.specs.Rect.{count_from}
use Rattle.spec_history.specs.Machine.{Reply, changed, refused, moved, nothing_to_undo, nothing_to_redo, not_top}
use Rattle.spec_history.specs.Machine.{tile_of, stale, no_stack, outside_tile, top_is, saved, save_fault, save_memory}
use Rattle.spec_history.specs.Machine.{history_full}
use Rattle.spec_history.specs.History.{Entry, Kind, asked, starts, ends, mine}
use Rattle.spec_text.specs.Printed.{line_text}
use Rattle.spec_seats.specs.Digests.{shows_tile}

-- neither a save that found no memory nor a full history
abbrev pub IsPrinted : Reply → Type 0
IsPrinted (changed version group next) = Unit {0}
IsPrinted (refused index cause) = Unit {0}
IsPrinted (moved now) = Unit {0}
IsPrinted nothing_to_undo = Unit {0}
IsPrinted nothing_to_redo = Unit {0}
IsPrinted (not_top group) = Unit {0}
IsPrinted (tile_of version) = Unit {0}
IsPrinted (stale have seen) = Unit {0}
IsPrinted (no_stack node) = Unit {0}
IsPrinted outside_tile = Unit {0}
IsPrinted (top_is group version) = Unit {0}
IsPrinted (saved version) = Unit {0}
IsPrinted (save_fault version) = Unit {0}
IsPrinted (save_memory version) = ⊥
IsPrinted history_full = ⊥

-- the line of an entry where it stands: a save has one line, at its end
abbrev pub line_here : (digest : List ℕ) → Entry → Kind → List ℕ
line_here digest e (asked call tables) = line_text e.session e.index digest e.reply
line_here digest e starts = []
line_here digest e ends = line_text e.session e.index digest e.reply

abbrev pub first_digest : List (List ℕ) → List ℕ
first_digest [] = []
first_digest (digest ∷ digests) = digest

-- the lines of a session's own entries, which take a digest for each tile that was shown
abbrev pub lines_with : (digests : List (List ℕ)) → List Entry → List ℕ
lines_with digests [] = []
lines_with digests (e ∷ es) =
    if shows_tile e.kind e.reply then line_here (first_digest digests) e e.kind ++ lines_with (drop 1 digests) es
    else line_here [] e e.kind ++ lines_with digests es

-- the lines of the sessions, in the order of the sessions; digests has a list for each
abbrev pub lines_of_sessions : (digests : List (List (List ℕ))) → List Entry → (sessions : ℕ) → List ℕ
lines_of_sessions digests es sessions =
    flat_map (λ session. lines_with (unwrap_or (slice_get digests session) []) (mine es session)) (count_from 0 sessions)
