-- What stands of a talk between two of its lines.
use Rattle.std.specs.Prelude.{◌≡◌, ℕ, suc, ◌≤◌, true, List, [], ◌∷◌, length, slice_index_or, Option, IfSome}
use Rattle.std.specs.List.{AllByRecursion, list_all}
use Rattle.spec_edit.specs.Edit.{IsEdit}
use Rattle.spec_filters.specs.declared.FilterState.{FilterState}
use Rattle.spec_filters.specs.Slots.{has_slot}
use Rattle.spec_history.specs.declared.TheConstants.{MAX_EDITS}
use Rattle.spec_history.specs.History.{Entry, mine}
use Rattle.spec_history.specs.Kept.{IsFresh}
use Rattle.spec_script.specs.Script.{Open, Session, blank, is_there, finds_filter}
use Rattle.spec_serve.specs.Hearing.{Hearing, hear}
use Rattle.spec_serve.specs.Seen.{seen_by}
use Rattle.spec_tables.specs.Agrees.{Agrees}
use Rattle.spec_tables.specs.Tables.{HaveTables, filters_along}

-- ---- the sessions

-- what is kept of a session: the version that it has seen, and its filters by their slots
pub record SeatState : Type 0 where
  pub seen : ℕ
  pub chest : List (Option FilterState)

abbrev pub seat_of : (seen : ℕ) → (chest : List (Option FilterState)) → SeatState
seat_of seen chest = record { seen = seen; chest = chest }

-- What a session was shown is no older than what it had seen, and its filters answered its tables and are in the state after them.
pub record IsSeated (filters : List FilterState) (es : List Entry) (session : ℕ) (seat : SeatState) : Type 0 where
  pub fresh : IsFresh es session
  pub seen : seat.seen ≡ seen_by es session
  pub tables : HaveTables filters (mine es session)
  pub agrees : Agrees seat.chest (filters_along filters (mine es session))

-- ---- what was heard

-- the hearing after these lines, the first of which has this number
abbrev pub heard_from : (number : ℕ) → Hearing → List (List ℕ) → Hearing
heard_from number h [] = h
heard_from number h (line ∷ lines) = heard_from (suc number) (hear number line h).hearing lines

abbrev pub session_at : Hearing → (session : ℕ) → Session
session_at h session = slice_index_or h.parsed.sessions session (blank 0)

-- each filter that is there by what was heard is in the chest
abbrev pub HasFilters : (given : ℕ) (dropped : List ℕ) (chest : List (Option FilterState)) → Type 0
HasFilters given dropped chest = (slot : ℕ) → is_there given dropped slot ≡ true → has_slot chest slot ≡ true

-- the edits of an open group are within their types, no more than a group may have, and find their filters
pub record IsOpenGroup (filters : ℕ) (dropped : List ℕ) (o : Open) : Type 0 where
  pub each : AllByRecursion IsEdit o.edits
  pub few : length o.edits ≤ MAX_EDITS
  pub found : list_all (finds_filter filters dropped) o.edits ≡ true

-- no line of a session is kept, and its open group may become a call
pub record IsBetween (s : Session) : Type 0 where
  pub none : s.lines ≡ []
  pub group : IfSome s.open_group (IsOpenGroup s.filters s.dropped)

-- so it is of each of the eight
pub record IsHearing (h : Hearing) : Type 0 where
  pub eight : length h.parsed.sessions ≡ 8
  pub between : (session : ℕ) → IsBetween (session_at h session)
