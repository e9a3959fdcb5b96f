-- The digests of the tiles that were shown along some entries.
use Rattle.std.specs.Prelude.{ℕ, Bool, true, false, ◌&&◌, if◌then◌else◌, List, [], ◌∷◌, flat_map}
use Rattle.spec_document.specs.Document.{Document}
use Rattle.spec_history.specs.Machine.{Call, edit, undo, redo, tile, peek, top, Reply, changed, refused, moved}
use Rattle.spec_history.specs.Machine.{nothing_to_undo, nothing_to_redo, not_top, tile_of, stale, no_stack}
use Rattle.spec_history.specs.Machine.{outside_tile, top_is, saved, save_fault, save_memory, history_full}
use Rattle.spec_history.specs.History.{Entry, Kind, asked, starts, ends}
use Rattle.spec_text.specs.Text.{shown_digest}

abbrev pub is_tile_reply : Reply → Bool
is_tile_reply (changed version group next) = false
is_tile_reply (refused index cause) = false
is_tile_reply (moved now) = false
is_tile_reply nothing_to_undo = false
is_tile_reply nothing_to_redo = false
is_tile_reply (not_top group) = false
is_tile_reply (tile_of version) = true
is_tile_reply (stale have seen) = false
is_tile_reply (no_stack node) = false
is_tile_reply outside_tile = false
is_tile_reply (top_is group version) = false
is_tile_reply (saved version) = false
is_tile_reply (save_fault version) = false
is_tile_reply (save_memory version) = false
is_tile_reply history_full = false

abbrev pub asks_tile : Call → Bool
asks_tile (edit guard edits) = false
asks_tile (undo named) = false
asks_tile redo = false
asks_tile (tile stack at) = true
asks_tile (peek stack at) = true
asks_tile top = false

-- whether a tile was asked for, and shown
abbrev pub shows_tile : Kind → Reply → Bool
shows_tile (asked call tables) reply = asks_tile call && is_tile_reply reply
shows_tile starts reply = false
shows_tile ends reply = false

-- the digest of the tile that was shown, if any
abbrev pub digest_in : Document → (es : List Entry) → Kind → Reply → List (List ℕ)
digest_in base es kind reply = if shows_tile kind reply then shown_digest base es kind reply ∷ [] else []

-- those along a session's own entries of a history, in order
abbrev pub digests_in : Document → (es own : List Entry) → List (List ℕ)
digests_in base es own = flat_map (λ e. digest_in base es e.kind e.reply) own
