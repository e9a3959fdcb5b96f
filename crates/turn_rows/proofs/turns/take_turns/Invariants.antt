use Rattle.std.proofs.Common.{◌≡◌}
use Rattle.xl_turn.specs.Seats.{IsOf, IsIdle, weight_of}
use Rattle.turn_rows.proofs.turns.take_turns.Given as goal

abbrev pub invariant-loop : goal.invariant-loop
invariant-loop g l = IsOf l.lock l.seat × IsIdle l.seat × (weight_of l.seat ≡ weight_of l.fn.seat)
