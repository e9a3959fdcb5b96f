-- A studio and its seats as callers see them.
use Rattle.std.specs.Prelude.{◌≡◌, ℕ, List, Option}
use mathlib.Core.List.{IsPrefix}
use Rattle.spec_document.specs.Document.{Document}
use Rattle.spec_history.specs.History.{latest_of}
use Rattle.spec_history.specs.Kept.{IsLegal}
use Rattle.xl_history.specs.History.{History}
use Rattle.xl_turn.specs.declared.view.Chronicle.{Ghosts}
use Rattle.xl_turn.specs.Seats.{opened_with, start_of, Exchange, IsOf, IsIdle}
use Rattle.xl_turn.specs.Seats as turns
use Rattle.xl_studio.specs.declared.moment.Moment.{Moment}
use Rattle.xl_studio.specs.declared.seat.Seat.{Seat}
use Rattle.xl_studio.specs.declared.seat.Studio.{Studio}
use Rattle.xl_studio.specs.Moments.{entries_in}
use Rattle.xl_studio.specs.State.{State, moments_of}
use Rattle.xl_studio.specs.Calling.{Known}

-- the list with which the studio was opened
abbrev pub opening_of : {K : Type 0} → Studio K → List (Moment K)
opening_of studio = moments_of (opened_with studio.lock).core

-- the document with which it was opened
abbrev pub base_of : {K : Type 0} → Studio K → Document
base_of studio = (opened_with studio.lock).core.history.base

-- the shelf with which it was opened
abbrev pub opening_shelf : {K : Type 0} → Studio K → K
opening_shelf studio = (opened_with studio.lock).core.opening

-- the history that a list of moments tells
abbrev pub history_of : {K : Type 0} → (base : Document) → List (Moment K) → History
history_of base ms = record { base = base; entries = entries_in ms }

-- What makes a front one of this studio's: it begins with the opening, which is one moment, and is legal. `seen` is
-- its last version.
pub record IsFront {K : Type 0} (opening : List (Moment K)) (base : Document) (start : ℕ) (front : List (Moment K))
    (seen : ℕ) : Type 0 where
  pub start_is : start ≡ 1
  pub begins : IsPrefix opening front
  pub legal : IsLegal base (entries_in front)
  pub seen_is : seen ≡ latest_of (entries_in front)

module _ {K : Type 0} {C : Ghosts (State K) (Moment K)} where
  -- a beginning of the one history
  abbrev pub front_of : Seat K C → List (Moment K)
  front_of s = turns.front_of s.seat

  -- the places of the entries that were made with this seat, by their numbers in the history
  abbrev pub made_of : Seat K C → List ℕ
  made_of s = turns.made_of s.seat

  -- the weights of a studio's seats have the sum 2 ^ 32
  abbrev pub weight_of : Seat K C → ℕ
  weight_of s = turns.weight_of s.seat

  -- what its last turn took out of the lock and put back
  abbrev pub last_turn : Seat K C → Option (Exchange (State K))
  last_turn s = turns.last_turn s.seat

  -- what the seat knows
  abbrev pub known_by : Seat K C → Known K
  known_by s = record { front = front_of s; made = made_of s }

  -- The seat is this studio's, and has no turn.
  pub record IsSeatOf (studio : Studio K) (s : Seat K C) : Type 0 where
    pub of : IsOf studio.lock s.seat
    pub idle : IsIdle s.seat
    pub front : IsFront (opening_of studio) (base_of studio) (start_of s.seat) (front_of s) s.seen
