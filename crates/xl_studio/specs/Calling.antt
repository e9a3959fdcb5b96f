-- What a call makes of the list under the lock, and what it tells its seat.
use Rattle.std.specs.Prelude.{◌≡◌, ◌⊎◌, ℕ, ◌-◌, List, [], ◌∷◌, ◌++◌, length, take, MatchBool, None}
use mathlib.Core.List.{IsPrefix}
use Rattle.spec_document.specs.Document.{Document}
use Rattle.spec_history.specs.Machine as machine
use Rattle.spec_history.specs.Machine.{Call, Reply}
use Rattle.spec_history.specs.History.{Entry, asked, next_index}
use Rattle.xl_history.specs.History.{is_full}
use Rattle.xl_studio.specs.declared.moment.Moment.{Moment}
use Rattle.xl_studio.specs.declared.moment.Moment.TheVariants.{Made}
use Rattle.xl_studio.specs.Moments.{IsAsked, entries_in}

-- a call with its tables and its reply, as the session's next
abbrev pub called_entry : (earlier : List Entry) → (session : ℕ) → Call → (tables : List (List ℕ)) → Reply → Entry
called_entry earlier session call tables reply =
    record { session = session; index = next_index earlier session; kind = asked call tables; reply = reply }

-- the call is the next entry, with its reply; a full history stays as it is
pub record Adds {K : Type 0} (base : Document) (entered : List (Moment K)) (session : ℕ) (call : Call) (tables : List (List ℕ))
    (reply : Reply) (left : List (Moment K)) : Type 0 where
  pub is : MatchBool (is_full (record { base = base; entries = entries_in entered }))
      ((reply ≡ machine.history_full) × (left ≡ entered))
      (left ≡ entered ++ Made (called_entry (entries_in entered) session call tables reply) None ∷ [])

-- nothing is added, or one call
pub record AddsCalls {K : Type 0} (entered left : List (Moment K)) : Type 0 where
  pub is : (left ≡ entered) ⊎ ((e : Entry) × IsAsked e.kind × (left ≡ entered ++ Made e None ∷ []))

-- only a tile may take steps
abbrev pub IsNoTile : Call → Type 0
IsNoTile (machine.tile stack at) = ⊥
IsNoTile (machine.peek stack at) = Unit {0}
IsNoTile (machine.edit guard edits) = Unit {0}
IsNoTile (machine.undo named) = Unit {0}
IsNoTile machine.redo = Unit {0}
IsNoTile machine.top = Unit {0}

-- the moments before the last one
abbrev pub before_last : {K : Type 0} → List (Moment K) → List (Moment K)
before_last ms = take (length ms - 1) ms

-- ---- what a seat knows

-- a beginning of the history, and the places of the entries that were made with the seat
pub record Known (K : Type 0) : Type 0 where
  pub front : List (Moment K)
  pub made : List ℕ

-- The call was answered after some history that begins with what the seat knew. It is the next entry, with its reply,
-- and the seat made just that one; where the history was full there is no entry. The seat knows the history as the
-- call left it.
pub record IsCalled {K : Type 0} (base : Document) (session : ℕ) (call : Call) (tables : List (List ℕ)) (reply : Reply)
    (old new : Known K) : Type 0 where
  pub entered : List (Moment K)
  pub begins : IsPrefix old.front entered
  pub made : MatchBool (is_full (record { base = base; entries = entries_in entered }))
      ((reply ≡ machine.history_full) × (new.front ≡ entered) × (new.made ≡ old.made))
      ((new.front ≡ entered ++ Made (called_entry (entries_in entered) session call tables reply) None ∷ [])
      × (new.made ≡ old.made ++ length (entries_in entered) ∷ []))

-- it made nothing, and may have heard what others made
pub record HasHeard {K : Type 0} (old new : Known K) : Type 0 where
  pub begins : IsPrefix old.front new.front
  pub made : new.made ≡ old.made
