-- What was made of a script where its run may have stopped before its end.
use Rattle.std.specs.Prelude.{◌≡◌, ℕ, ◌<◌, ◌≤◌, List, []}
use mathlib.Core.List.{IsPrefix}
use Rattle.spec_filters.specs.declared.FilterState.{FilterState}
use Rattle.spec_history.specs.History.{Entry, mine}
use Rattle.spec_script.specs.Script.{Line, list_at}
use Rattle.spec_tables.specs.Tables.{HaveTables}
use Rattle.spec_text.specs.Text.{calls_along, calls_of}

-- A session's entries are for the first of the calls of its lines, or for all: once each, in their order, with the tables of its
-- filters.
pub record AreBegun (filters : List FilterState) (lines : List Line) (own : List Entry) : Type 0 where
  pub calls : IsPrefix (calls_along own) (calls_of lines)
  pub tables : HaveTables filters own

-- So are those of each of the eight sessions, and there are no others.
pub record IsFrontOf (lists : List (List Line)) (chests : List (List FilterState)) (es : List Entry) : Type 0 where
  pub begun : (session : ℕ) → session < 8 → AreBegun (list_at chests session) (list_at lists session) (mine es session)
  pub others : (session : ℕ) → 8 ≤ session → mine es session ≡ []
