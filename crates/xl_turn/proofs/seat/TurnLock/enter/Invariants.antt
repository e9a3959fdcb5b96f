use Rattle.std.proofs.Common.{◌≡◌, ℕ, ◌%◌, ◌^◌, []}
use Rattle.xl_turn.specs.Turns.{waiting_with}
use Rattle.xl_turn.proofs.seat.TurnLock.enter.Given as goal

abbrev pub invariant-loop : goal.invariant-loop
invariant-loop g l =
    (goal.iterator-loop g).can_next l.iterator' × (goal.iterator-loop g).is_finite l.iterator'
    × (l.seat.seat.table_id ≡ l.fn.seat.seat.table_id)
    × ((t : ℕ) × (l.ticket ≡ t % 2 ^ 64) × (l.seat.seat.me ≡ (waiting_with l.fn.seat.seat.me.0 t, [])))
