-- A seat and a lock as callers see them: what a seat knows, whether it waits or holds the list, and what it may leave.
use Rattle.std.specs.Prelude.{◌≡◌, ◌⊎◌, ℕ, ◌+◌, ◌-◌, ◌%◌, ◌^◌, ◌<◌, ◌≤◌, cond, ltb, List, [], ◌∷◌, ◌++◌, length, Option, None}
use Rattle.std.specs.Prelude.{option_map}
use Rattle.xl_turn.specs.declared.seat.TurnSeat.{TurnSeat}
use Rattle.xl_turn.specs.declared.seat.TurnLock.{TurnLock}
use Rattle.xl_turn.specs.declared.seat.Held.{Held}
use Rattle.xl_turn.specs.declared.seat.Turned.{Turned}
use Rattle.xl_turn.specs.declared.view.Chronicle.{Ghosts}
use Rattle.xl_turn.specs.declared.view.Stage.TheVariants.{Idle, Served}
use Rattle.xl_turn.specs.Sums.{times, below}
use Rattle.xl_turn.specs.Turns.{Closes}

-- the value with which the lock was opened
abbrev pub opened_with : {T E : Type 0} → TurnLock T E → T
opened_with lock = lock.table.shared.key.value

-- the value that a turn took out of the lock, and the one that it put back
pub record Exchange (T : Type 0) : Type 0 where
  pub out : T
  pub back : T

abbrev pub exchanged : {T : Type 0} → Turned T → Exchange T
exchanged turned = record { out = turned.out.value; back = turned.back.value }

-- the value as it was taken out
abbrev pub taken_out : {T : Type 0} → Held T → T
taken_out held = held.out.value

module _ {T E : Type 0} {C : Ghosts T E} where
  -- a beginning of the one history
  abbrev pub front_of : TurnSeat T E C → List E
  front_of s = s.seat.me.0.front

  -- the places of the entries that were made with this seat
  abbrev pub made_of : TurnSeat T E C → List ℕ
  made_of s = s.seat.me.0.made

  -- the weights of a lock's seats have the sum 2 ^ 32
  abbrev pub weight_of : TurnSeat T E C → ℕ
  weight_of s = s.seat.me.0.weight

  -- the list that the seat entered last
  abbrev pub entered_by : TurnSeat T E C → List E
  entered_by s = s.seat.me.0.entered

  -- what its last turn took out and put back, once it has had one
  abbrev pub last_turn : TurnSeat T E C → Option (Exchange T)
  last_turn s = option_map exchanged s.last

  -- how many entries the opening list had
  abbrev pub start_of : TurnSeat T E C → ℕ
  start_of s = s.seat.me.0.start

  -- the seat is this lock's
  abbrev pub IsOf : TurnLock T E → TurnSeat T E C → Type 0
  IsOf lock s = (s.seat.table_id ≡ lock.table.shared.table_id) × (start_of s ≡ length (C.entries (opened_with lock)))

  -- the seat waits for nothing and holds nothing
  abbrev pub IsIdle : TurnSeat T E C → Type 0
  IsIdle s = (s.seat.me.0.stage ≡ Idle) × (s.seat.me.1 ≡ [])

  -- it is the seat that entered the held value
  abbrev pub Holds : TurnSeat T E C → Held T → Type 0
  Holds s held =
      (s.seat.me.0.stage ≡ Served)
      × (s.seat.me.1 ≡ (0, None) ∷ [])
      × (held.ticket ≡ s.seat.me.0.ticket % 2 ^ 64)
      × (held.len ≡ length (entered_by s))

  -- front, places and weight stay
  pub record Keeps (before after : TurnSeat T E C) : Type 0 where
    pub front_stays : front_of after ≡ front_of before
    pub made_stays : made_of after ≡ made_of before
    pub weight_stays : weight_of after ≡ weight_of before

-- A list that may be left is the one that was entered, or has one entry more. Where that entry closes a place, the
-- place is in `made`.
abbrev pub MayLeave : {E : Type 0} → (List E → Option ℕ) → ℕ → List ℕ → List E → List E → Type 0
MayLeave {E} closes start made entered left =
    (left ≡ entered)
    ⊎ ((e : E) × (left ≡ entered ++ e ∷ []) × ((j : ℕ) → Closes closes start left (length entered - start) j → 0 < times j made))

-- the place of the entry that the list has more than the one entered, if there is one, is put to `made`
abbrev pub made_after : {E : Type 0} → ℕ → List ℕ → List E → List E → List ℕ
made_after start made entered left = cond (ltb (length entered) (length left)) (made ++ (length entered - start) ∷ []) made

-- no number stands in both lists, and none twice in one
abbrev pub IsApart : List ℕ → List ℕ → Type 0
IsApart xs ys = (x : ℕ) → times x xs + times x ys ≤ 1

-- each number below n stands in the list, once, and no other number
abbrev pub IsEachOnce : ℕ → List ℕ → Type 0
IsEachOnce n made = (x : ℕ) → times x made ≡ below n x
