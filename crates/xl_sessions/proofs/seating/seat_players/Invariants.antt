use Rattle.std.proofs.Common.{◌≡◌}
use Rattle.std.specs.Prelude.{vec_capacity}
use Rattle.xl_sessions.proofs.Seated.{AreSeating}
use Rattle.xl_sessions.proofs.seating.seat_players.Given as goal

abbrev pub invariant-loop-part : goal.invariant-loop-part
invariant-loop-part g l =
    AreSeating l.studio l.initial.own l.fn.parts.items l.part-iterator.rest.items l.players.items l.own
    × (vec_capacity l.players ≡ vec_capacity l.initial.players)
