-- A history of the calls and saves of session 0, which is alone, and the lines that are printed for it.
use Rattle.std.specs.Prelude.{◌≡◌, ◌⊎◌, ◌+◌, ◌*◌, ◌<◌, ◌≤◌, ◌^◌, ℕ, List, [], ◌∷◌, ◌++◌, length, flat_map, slice_set, Option, None, IsSome}
use Rattle.std.specs.Prelude.{option_map, unwrap_or, Result, String, string_bytes, IfOk, OnOk}
use Rattle.std.specs.declared.alloc.Global.{Global}
use Rattle.std.specs.List.{AllByRecursion}
use Rattle.spec_document.specs.Document.{Document}
use Rattle.spec_history.specs.Machine.{Call, Reply, version_shown}
use Rattle.spec_history.specs.declared.TheConstants.{MAX_ENTRIES}
use Rattle.spec_history.specs.History.{Entry, asked, ends, replay, next_index}
use Rattle.spec_history.specs.Kept.{IsFresh, IsLegal}
use Rattle.spec_saves.specs.Names.{save_faults}
use Rattle.spec_filters.specs.declared.FilterState.{FilterState}
use Rattle.spec_run.specs.Fronts.{AreBegun}
use Rattle.spec_script.specs.Fits.{AreFit}
use Rattle.spec_script.specs.Script.{Line, call, save, forget}
use Rattle.spec_tables.specs.Tables.{HaveTables, expected_tables}
use Rattle.spec_tables.specs.Agrees.{Agrees, IsAfter}
use Rattle.spec_text.specs.Text.{IsPrintable, AreAlone, calls_along, calls_of, digest_of, entry_line}
use Rattle.xl_history.specs.Editing.{Editing, start_of}
use Rattle.xl_history.specs.History.{History, with_call}
use Rattle.xl_ports.specs.State.{ShelfState}
use Rattle.xl_run.specs.Opening.{KeepsExactly}

-- ---- whose entries they are

abbrev pub AreOf : (session : ℕ) → List Entry → Type 0
AreOf session es = AllByRecursion (λ e. e.session ≡ session) es

-- ---- the printed lines

-- the lines of a history, in the order of its entries
abbrev pub lines_in : Document → List Entry → List ℕ
lines_in base es = flat_map (entry_line base es) es

-- The entries are a legal history of calls and saves of session 0, no save is out, and the text is their lines. What the session is
-- shown is no older than what it has seen; and where no save failed, what its peeks are answered follows from the entries.
pub record ArePlayed (base : Document) (es : List Entry) (out : List ℕ) : Type 0 where
  pub legal : IsLegal base es
  pub ended : (replay base es).out ≡ None
  pub own : AreOf 0 es
  pub printable : AllByRecursion IsPrintable es
  pub fresh : IsFresh es 0
  pub alone : save_faults es ≡ 0 → AreAlone base [] es
  pub text : out ≡ lines_in base es

-- the digest that the line of a reply has: that of the bytes, where the reply is a tile
abbrev pub shown_of : Reply → (bytes : List ℕ) → List ℕ
shown_of reply bytes = unwrap_or (option_map (λ version. digest_of bytes) (version_shown reply)) []

-- ---- what a line makes

-- the call is the last entry, with the tables that the chest's filters answered, which were asked for nothing else
pub record IsCalled (old : History) (session : ℕ) (c : Call) (before after : List (Option FilterState)) (new : History)
    : Type 0 where
  pub reply : Reply
  pub grown : (filters : List FilterState) → Agrees before filters
      → new ≡ with_call old session c (expected_tables filters (asked c []) reply) reply
  pub used : IsAfter before after c reply

-- a save, with this reply, is the last two entries
abbrev pub with_save : History → (session : ℕ) → Reply → History
with_save h session reply = record h {
  entries = h.entries
      ++ start_of h session ∷ record { session = session; index = next_index h.entries session; kind = ends; reply = reply } ∷ [];
}

-- what a line of the script makes of a history and of a chest
abbrev pub IsMade : (old : History) → (session : ℕ) → Line → (before after : List (Option FilterState)) → (new : History) → Type 0
IsMade old session (call c) before after new = IsCalled old session c before after new
IsMade old session save before after new = ((reply : Reply) × (new ≡ with_save old session reply)) × (after ≡ before)
IsMade old session (forget slot) before after new = (new ≡ old) × (after ≡ slice_set before slot None)

-- ---- what all lines make

-- each call of the lines is made once, in their order, with the tables of these filters
pub record AreMade (filters : List FilterState) (lines : List Line) (es : List Entry) : Type 0 where
  pub calls : calls_along es ≡ calls_of lines
  pub tables : HaveTables filters es

-- where the run stands between two lines: the shelf is in, and the history is legal
pub record IsBetweenLines {D : Type 0} (base : Document) (opening : D) (core : Editing D) : Type 0 where
  pub base_is : core.history.base ≡ base
  pub opening_is : core.opening ≡ opening
  pub inside : IsSome core.shelf
  pub legal : IsLegal core.history.base core.history.entries

-- ---- what the session needs, and what comes of it

-- all that it needs for a line of at most so many entries: what it has played, the index of its next call, and the text so far
pub record CanPlay {D : Type 0} (see : D → ShelfState) (most : ℕ) (core : Editing D) (index : ℕ) (out : List ℕ) : Type 0 where
  pub played : ArePlayed core.history.base core.history.entries out
  pub inside : IsSome core.shelf
  pub selected : IsSome (see core.opening).selected
  pub index_is : index ≡ next_index core.history.entries 0
  pub few : length core.history.entries + most ≤ MAX_ENTRIES
  pub kept : KeepsExactly core

-- What comes of a line. It was made, or nothing was; where it came to its end it was, and its text stands behind the others.
pub record IsLinePlayed {D E : Type 0} (result : Result (Unit {0}) E) (old new : Editing D) (line : Line)
    (before after : List (Option FilterState)) (out : List ℕ) : Type 0 where
  pub between : IsBetweenLines old.history.base old.opening new
  pub begun : (new.history ≡ old.history) ⊎ IsMade old.history 0 line before after new.history
  pub made : OnOk result (IsMade old.history 0 line before after new.history)
  pub kept : OnOk result (KeepsExactly new)
  pub played : OnOk result (ArePlayed new.history.base new.history.entries out)

-- a core that was opened, and on which nothing was played
pub record IsOpened {D : Type 0} (see : D → ShelfState) (core : Editing D) : Type 0 where
  pub fresh : core.history.entries ≡ []
  pub kept : KeepsExactly core
  pub inside : IsSome core.shelf
  pub selected : IsSome (see core.opening).selected

-- lines that a session may play which has so many filters
pub record AreForSession (filters : ℕ) (lines : List Line) : Type 0 where
  pub short : filters < 2 ^ 32
  pub fit : AreFit filters [] lines
  pub few : 2 * length (calls_of lines) ≤ MAX_ENTRIES

-- What comes of all lines. The first of them were made; where the run came to its end all were, and the text is that of the entries.
pub record AreLinesPlayed {D E : Type 0} (result : Result (String Global) E) (old new : Editing D) (filters : List FilterState)
    (lines : List Line) : Type 0 where
  pub between : IsBetweenLines old.history.base old.opening new
  pub own : AreOf 0 new.history.entries
  pub begun : AreBegun filters lines new.history.entries
  pub made : OnOk result (AreMade filters lines new.history.entries)
  pub played : IfOk result (λ text. ArePlayed new.history.base new.history.entries (string_bytes text))
