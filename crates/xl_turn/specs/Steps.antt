-- What each step of a turn tells the seat that takes it.
use Rattle.std.specs.Prelude.{◌≡◌, ◌≢◌, ℕ, ◌%◌, ◌^◌, ◌≤◌, List, [], ◌∷◌, Option, Some}
use mathlib.Core.List.{IsPrefix}
use Rattle.atomic_table.specs.Table.{Me, Step, rest}
use Rattle.xl_turn.specs.declared.view.View.{View}
use Rattle.xl_turn.specs.Sums.{times}
use Rattle.xl_turn.specs.Turns.{waiting_with, served_with, counted_with, back_to_idle, with_longer_front, IsWithin, IsClosed}

module _ {T E : Type 0} where
  -- the seat has a ticket, of which it was told the low 64 bits
  abbrev pub Draws : Step (Option T) → Me (Option T) (View E) → ℕ → Me (Option T) (View E) → Type 0
  Draws st before found after = (t : ℕ) × (found ≡ t % 2 ^ 64) × (after ≡ (waiting_with before.0 t, before.1))

  module _ (entries : T → List E) (closes : List E → Option ℕ) where
    -- the seat took the state out. Its list begins with the seat's front
    abbrev pub Takes : Me (Option T) (View E) → Me (Option T) (View E) → Type 0
    Takes before after = (x : T) × (after ≡ (served_with before.0 (entries x), (0, Some x) ∷ before.1))
        × IsPrefix before.0.front (entries x) × IsWithin before.0.start (entries x) before.0.made
        × IsClosed closes before.0.start (entries x) before.0.made

    abbrev pub Looks : Step (Option T) → Me (Option T) (View E) → ℕ → Me (Option T) (View E) → Type 0
    Looks st before found after =
        (found ≡ before.0.ticket % 2 ^ 64 → Takes before after) × (found ≢ before.0.ticket % 2 ^ 64 → after ≡ before)

  -- the entry that the state in the seat's slot has at its end is counted
  abbrev pub Counts : (T → List E) → Step (Option T) → Me (Option T) (View E) → ℕ → Me (Option T) (View E) → Type 0
  Counts entries st before found after =
      (x : T) × (before.1 ≡ (0, Some x) ∷ []) × (after ≡ (counted_with before.0 (entries x), before.1))

  abbrev pub Passes : Step (Option T) → Me (Option T) (View E) → ℕ → Me (Option T) (View E) → Type 0
  Passes st before found after = after ≡ (back_to_idle before.0, rest before.1)

  abbrev pub Compares : Step (Option T) → Me (Option T) (View E) → ℕ → Me (Option T) (View E) → Type 0
  Compares st before found after = (after ≡ (with_longer_front before.0, before.1)) × IsPrefix before.0.front after.0.front
      × IsPrefix before.0.heard after.0.front × ((x : ℕ) → times x before.0.made ≤ 1)
