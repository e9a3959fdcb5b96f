-- A history: the document with which it began, and its entries.
use Rattle.std.specs.Prelude.{◌≡◌, ℕ, ◌+◌, Bool, not, ◌&&◌, nat_le, List, [], ◌∷◌, ◌++◌, length, Option, Some, IfSome, MatchBool}
use Rattle.spec_document.specs.declared.TileAt.{TileAt}
use Rattle.spec_document.specs.Document.{Document}
use Rattle.spec_document.specs.Picture.{project}
use Rattle.spec_history.specs.Machine as machine
use Rattle.spec_history.specs.Machine.{Call, Reply, answer}
use Rattle.spec_world.specs.World.{entries_owed}
use Rattle.spec_history.specs.declared.TheConstants.{MAX_ENTRIES}
use Rattle.spec_history.specs.History.{Entry, asked, is_changed, replay, next_index, latest_of, document_of}
use Rattle.spec_history.specs.Kept.{kept}

pub record History : Type 0 where
  pub base : Document
  pub entries : List Entry

-- the last version's number
abbrev pub version : History → ℕ
version h = latest_of h.entries

-- the document at the last version
abbrev pub document : History → Document
document h = document_of h.base h.entries (version h)

-- what the machine answers to a call after this history, where the call's filters answered these tables
abbrev pub reply_to : History → Call → (tables : List (List ℕ)) → Reply
reply_to h call tables = (answer h.base (replay h.base h.entries) call tables).reply

-- the history with a call, its tables and its reply
abbrev pub with_call : History → (session : ℕ) → Call → (tables : List (List ℕ)) → Reply → History
with_call h session call tables reply = record h {
  entries =
      h.entries ++ record { session = session; index = next_index h.entries session; kind = asked call tables; reply = reply } ∷ [];
}

-- no entry is free beside the end that is owed where a save is out
abbrev pub is_full : History → Bool
is_full h = nat_le MAX_ENTRIES (length h.entries + entries_owed (replay h.base h.entries).out)

-- The history is not full, and the machine answers the call by a change. It does so with no tables where it does with any
-- (`acceptance_looks_at_no_table` of `spec_tables`).
abbrev pub is_accepted : History → Call → Bool
is_accepted h call = not (is_full h) && is_changed (reply_to h call [])

-- The call is answered as the machine answers it with these tables, and is the last entry with them; a full history stays as it is.
abbrev pub Answers : (old : History) → (session : ℕ) → Call → (tables : List (List ℕ)) → Reply → (new : History) → Type 0
Answers old session call tables reply new =
    MatchBool (is_full old)
    ((reply ≡ machine.history_full) × (new ≡ old))
    ((reply ≡ reply_to old call tables) × (new ≡ with_call old session call tables reply))

-- the bytes are those of a tile at a version, if any
abbrev pub ShowsAt : History → (stack : ℕ) → TileAt → (version : Option ℕ) → (bytes : List ℕ) → Type 0
ShowsAt h stack at version bytes = IfSome version (λ v. bytes ≡ project (document_of h.base h.entries v) stack at)

-- the bytes are those of the tile that was asked for, at the version that is named
abbrev pub Shows : History → Call → Reply → (bytes : List ℕ) → Type 0
Shows h (machine.tile stack at) reply bytes = ShowsAt h stack at (machine.version_shown reply) bytes
Shows h (machine.peek stack at) reply bytes = ShowsAt h stack at (machine.version_shown reply) bytes
Shows h (machine.edit guard edits) reply bytes = Unit {0}
Shows h (machine.undo named) reply bytes = Unit {0}
Shows h machine.redo reply bytes = Unit {0}
Shows h machine.top reply bytes = Unit {0}

-- after this history the call needs no step: every call but a tile, and a tile of which the last version is kept
abbrev pub NeedsNoStep : History → Call → Type 0
NeedsNoStep h (machine.tile stack at) = kept h.base h.entries stack at ≡ Some (version h)
NeedsNoStep h (machine.edit guard edits) = Unit {0}
NeedsNoStep h (machine.undo named) = Unit {0}
NeedsNoStep h machine.redo = Unit {0}
NeedsNoStep h (machine.peek stack at) = Unit {0}
NeedsNoStep h machine.top = Unit {0}
