use denote.Exit.{no}
use denote.Param.{param}
use denote.Param.Send.{param_send, arg_send, shr_sync}
use Rattle.std.proofs.Crossing.{sync}
use Rattle.xl_sessions.specs.Players.{HasWorked}
use Rattle.xl_turn.proofs.Sent.{none, also, captures_sync}
use Rattle.xl_studio.proofs.Sent.{seat_row, seat_send, studio_sync}
use Rattle.xl_sessions.proofs.Sent.{worker_send}
use Rattle.xl_sessions.proofs.Zips.{zip_changed, all_left}
use Rattle.xl_sessions.proofs.threads.work_all.Goals as goal

pub for_each_mut-requires-send-T : goal.for_each_mut-requires-send-T
for_each_mut-requires-send-T g c κs within =
    let D = param 1 g.row.D in
    let own = seat_send D g.D.Shelf c.type_bounds.send-D in
    param_send _ _ (arg_send _ no _ (worker_send (seat_row D g.D.Shelf) own))

pub for_each_mut-requires-sync-F : goal.for_each_mut-requires-sync-F
for_each_mut-requires-sync-F g c κs within =
    let D = param 1 g.row.D in
    let studio = studio_sync D g.D.Shelf c.type_bounds.send-D in
    captures_sync _ _ _ _ (also (shr_sync _ _ _ c.type_bounds.sync-R) (also (shr_sync _ _ _ sync) (also (shr_sync _ _ _ studio)
    (also (shr_sync _ _ _ c.type_bounds.sync-G) none))))

pub returns : goal.returns
returns g c = all_left (HasWorked c.args.studio.now) c.args.workers.now c.for_each_mut.new.s
    (zip_changed (λ x y. HasWorked c.args.studio.now y) c.args.workers.now c.for_each_mut.new.s c.for_each_mut.auto.s
    (λ i d lt. let at = (c.for_each_mut.ensures i d lt).1 in
    (at.argument.now, at.after_call.now, at.argument_is, at.left, at.call)))
