use Rattle.std.proofs.Common.{◌≤◌, ◌+◌, length}
use Rattle.std.specs.Prelude.{vec_capacity}
use Rattle.xl_sessions.proofs.JoinedSeats.{IsJoining}
use Rattle.xl_sessions.proofs.joining.join_players.Given as goal

abbrev pub invariant-loop-player : goal.invariant-loop-player
invariant-loop-player g l =
    IsJoining l.studio l.initial.own l.fn.players.items l.player-iterator.rest.items l.own l.digests.items l.stopped
    × (length l.digests.items + length l.player-iterator.rest.items ≤ vec_capacity l.digests)
