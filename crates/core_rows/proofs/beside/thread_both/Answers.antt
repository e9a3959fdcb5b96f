use denote.Param.{param}
use denote.Param.Send.{IsSync, sendable, shr_send}
use Rattle.std.proofs.Crossing.{crosses, sync}
use Rattle.xl_turn.proofs.Sent.{none, also, captures_send}
use Rattle.xl_studio.proofs.Sent.{seat_send, studio_sync}
use Rattle.core_rows.proofs.Sent.{heard_send}
use Rattle.core_rows.specs.contracts.beside.Part as Part
use Rattle.core_rows.specs.contracts.calls.Ask as Ask
use Rattle.core_rows.proofs.beside.thread_both.Goals as goal

ask_sync : IsSync Ask.the_row
ask_sync = search (crosses, sendable) depth 60

part_sync : IsSync Part.the_row
part_sync = search (ask_sync, crosses, sendable) depth 60

pub join-seat-requires-send-F : goal.join-seat-requires-send-F
join-seat-requires-send-F g c κs within =
    let D = param 1 g.row.D in
    let studio = studio_sync D g.D.Shelf c.type_bounds.send-D in
    captures_send _ _ _ _ (also (shr_send _ _ _ c.type_bounds.sync-R) (also (shr_send _ _ _ sync) (also (shr_send _ _ _ studio)
    (also (seat_send D g.D.Shelf c.type_bounds.send-D) (also (shr_send _ _ _ c.type_bounds.sync-G) (also (shr_send _ _ _ part_sync) none))))))

pub join-seat-requires-send-A : goal.join-seat-requires-send-A
join-seat-requires-send-A g c κs within =
    captures_send _ _ _ _ (also (seat_send (param 1 g.row.D) g.D.Shelf c.type_bounds.send-D) (also heard_send none))
