-- What of a run may go to another thread.
use denote.Param.Object.{Ghosts, table_of}
use denote.Param.Send.{IsSend, sendable}
use denote.Param.Sent.{Sends}
use denote.RattleType.{RattleType}
use Rattle.std.proofs.Crossing.{crosses, dyn_box_send}
use Rattle.xl_compose.proofs.tile.Picture.TheSendSync as picture
use Rattle.xl_script.proofs.script.Line.TheSendSync as line
use Rattle.xl_sessions.proofs.players.Worker.TheSendSync as worker
use Rattle.xl_run.proofs.unplayed.Unplayed.TheSendSync as unplayed
use Rattle.xl_sessions.specs.contracts.players.Player as Player
use Rattle.xl_sessions.specs.contracts.players.Worker as Worker

-- a player, where its seat and its filters may
pub player_send : (S D : RattleType) (g : Ghosts D.Denot) → Sends (table_of D.Denot g) → IsSend D → IsSend S
    → IsSend (Player.the_row S D g)
player_send S D g boxes d s = search (line.the_send, picture.the_send, unplayed.the_send, dyn_box_send D g boxes, crosses, sendable) depth 60

pub worker_send : (S : RattleType) → IsSend S → IsSend (Worker.the_row S)
worker_send S s = worker.the_send S s
