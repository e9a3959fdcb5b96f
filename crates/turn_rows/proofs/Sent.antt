-- What may go to another thread: tallies, and the seats that take turns with one.
use denote.Param.Send.{IsSend, IsSync, sendable}
use denote.Plain.{UInt}
use Rattle.std.proofs.Common.{w32, w64}
use Rattle.std.proofs.Crossing.{crosses}
use Rattle.xl_turn.proofs.Sent.{seat_send}
use Rattle.xl_turn.proofs.seat.TurnLock.TheSendSync as lock
use Rattle.xl_turn.specs.contracts.seat.TurnLock as TurnLock
use Rattle.xl_turn.specs.contracts.seat.TurnSeat as TurnSeat
use Rattle.turn_rows.specs.contracts.tally.Tally as Tally
use Rattle.turn_rows.specs.contracts.tally.TallyChronicle.TheImpl as chronicle

tally_send : IsSend Tally.the_row
tally_send = search (crosses, sendable) depth 60

pub taker_send : IsSend (TurnSeat.the_row Tally.the_row (UInt w64) chronicle.ghosts)
taker_send = seat_send Tally.the_row (UInt w64) chronicle.ghosts tally_send

pub lock_sync : IsSync (TurnLock.the_row Tally.the_row (UInt w64) chronicle.ghosts)
lock_sync = lock.the_sync Tally.the_row (UInt w64) chronicle.ghosts tally_send

pub long_sync : IsSync (UInt w64)
long_sync = search sendable

pub word_sync : IsSync (UInt w32)
word_sync = search sendable
