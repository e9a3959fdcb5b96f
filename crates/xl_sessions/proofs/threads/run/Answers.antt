use denote.Param.{param}
use denote.Param.Send.{shr_send, mut_slice_send}
use Rattle.std.proofs.Crossing.{sync}
use Rattle.xl_turn.proofs.Sent.{none, also, captures_send}
use Rattle.xl_studio.proofs.Sent.{seat_row, seat_send, studio_sync}
use Rattle.xl_sessions.proofs.Sent.{worker_send}
use Rattle.xl_sessions.proofs.threads.run.Goals as goal

pub join_mut-requires-send-F : goal.join_mut-requires-send-F
join_mut-requires-send-F g c κs within =
    let D = param 1 g.row.D in
    let own = seat_send D g.D.Shelf c.type_bounds.send-D in
    let studio = studio_sync D g.D.Shelf c.type_bounds.send-D in
    let worker = worker_send (seat_row D g.D.Shelf) own in
    captures_send _ _ _ _ (also (shr_send _ _ _ c.type_bounds.sync-R) (also (shr_send _ _ _ sync) (also (shr_send _ _ _ studio)
    (also (shr_send _ _ _ c.type_bounds.sync-G) (also (mut_slice_send _ _ _ worker) none)))))
