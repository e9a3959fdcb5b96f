-- What an answered line has made of a history and of its session.
use Rattle.std.specs.Prelude.{◌≡◌, ◌⊎◌, ℕ, List, [], ◌++◌, IsSome, Option, None}
use Rattle.std.specs.List.{AllByRecursion}
use Rattle.spec_filters.specs.declared.FilterState.{FilterState}
use Rattle.spec_history.specs.Machine.{Call, Reply}
use Rattle.spec_history.specs.History.{Entry, asked, replay}
use Rattle.spec_history.specs.Kept.{IsFreshReply, IsLegal}
use Rattle.spec_script.specs.Script.{Line}
use Rattle.spec_script.specs.Fits.{dropped_by}
use Rattle.spec_serve.specs.Hearing.{Asks, plays}
use Rattle.spec_serve.specs.Said.{Said, entries_of, texts_in, AreSaid}
use Rattle.spec_serve.specs.Talk.{IsTurn}
use Rattle.spec_tables.specs.Agrees.{Agrees, IsAfter}
use Rattle.spec_tables.specs.Tables.{expected_tables}
use Rattle.spec_text.specs.Text.{shown_digest}
use Rattle.xl_history.specs.Editing.{Editing}
use Rattle.xl_history.specs.History.{History, with_call}
use Rattle.xl_play.specs.Playing.{shown_of}
use Rattle.xl_serve.specs.Standing.{SeatState, IsSeated, HasFilters}
use mathlib.Core.List.{IsPrefix}

-- between two lines no save is out
pub record IsReady {D : Type 0} (core : Editing D) : Type 0 where
  pub inside : IsSome core.shelf
  pub legal : IsLegal core.history.base core.history.entries
  pub ended : (replay core.history.base core.history.entries).out ≡ None

-- so it is still; the history goes on from the old one, over the same document and for the same shelf
pub record GoesOn {D : Type 0} (old new : Editing D) : Type 0 where
  pub ready : IsReady new
  pub base_is : new.history.base ≡ old.history.base
  pub opening_is : new.opening ≡ old.opening
  pub longer : IsPrefix old.history.entries new.history.entries

-- ---- a call

-- the call is the last entry, with the tables that the chest's filters answered; the reply is no older than what was seen, and its
-- digest is that of the bytes
pub record IsReplied (old : History) (session : ℕ) (c : Call) (seen : ℕ) (before after : List (Option FilterState)) (bytes : List ℕ)
    (reply : Reply) (new : History) : Type 0 where
  pub grown : (filters : List FilterState) → Agrees before filters
      → new ≡ with_call old session c (expected_tables filters (asked c []) reply) reply
  pub used : IsAfter before after c reply
  pub fresh : IsFreshReply seen reply
  pub shown : (tables : List (List ℕ)) → shown_of reply bytes ≡ shown_digest new.base new.entries (asked c tables) reply

-- ---- a line

-- what was said to a line: it answers what the line asks for, its entries are the last ones of the history, and this is its text
pub record IsAnswered (number : ℕ) (asks : Asks) (old new : History) (text : List ℕ) : Type 0 where
  pub turn : List Said
  pub is_turn : IsTurn number asks turn
  pub entries : new.entries ≡ old.entries ++ entries_of turn
  pub said : AreSaid old.base old.entries turn
  pub text_is : text ≡ texts_in new.base new.entries turn

-- memory ran out within a line of a session: nothing was entered for it, or just what answers it
abbrev pub IsCut : (session : ℕ) → Line → (old new : History) → Type 0
IsCut session line old new =
    (new.entries ≡ old.entries)
    ⊎ ((turn : List Said) × ((number : ℕ) → IsTurn number (plays session line) turn) × (new.entries ≡ old.entries ++ entries_of turn))

-- a line of a session was played: the entries that it made are the session's, which goes on from where it was
pub record IsPlayed (session : ℕ) (line : Line) (old new : History) (before after : SeatState) (text : List ℕ) : Type 0 where
  pub answered : (number : ℕ) → IsAnswered number (plays session line) old new text
  pub more : List Entry
  pub entries : new.entries ≡ old.entries ++ more
  pub own : AllByRecursion (λ e. e.session ≡ session) more
  pub seated : (filters : List FilterState) → IsSeated filters old.entries session before → IsSeated filters new.entries session after
  pub has : (given : ℕ) (dropped : List ℕ) → HasFilters given dropped before.chest
      → HasFilters given (dropped_by dropped line) after.chest
