use denote.Exit.{no}
use denote.Param.{param}
use denote.Param.Object.{Vt, ghosts_of}
use denote.Param.Send.{param_send, arg_send, shr_sync}
use denote.Param.Sent.{code_send}
use Rattle.std.proofs.Crossing.{sync}
use Rattle.xl_sessions.specs.Players.{in_slots, CanPlay, Plays}
use Rattle.xl_sessions.specs.contracts.threads.play_all.dyn-1.{slots}
use Rattle.xl_sessions.proofs.Each.{each_read}
use Rattle.xl_turn.proofs.Sent.{none, also, captures_sync}
use Rattle.xl_studio.proofs.Sent.{seat_row, seat_send, studio_sync}
use Rattle.xl_sessions.proofs.Sent.{player_send}
use Rattle.xl_sessions.proofs.Zips.{zip_changed}
use Rattle.xl_sessions.proofs.threads.play_all.Goals as goal

pub for_each_mut-requires-send-T : goal.for_each_mut-requires-send-T
for_each_mut-requires-send-T g c κs within =
    let D = param 1 g.row.D in
    let own = seat_send D g.D.Shelf c.type_bounds.send-D in
    let boxes = slots g.row.R g.row.D g.row.G in
    let player = player_send (seat_row D g.D.Shelf) (Vt boxes g.dyn-1.0) (ghosts_of boxes g.dyn-1.0 g.dyn-1.1) g.dyn-1.2
    (code_send _ _ _) own in
    param_send _ _ (arg_send _ no _ player)

pub for_each_mut-requires-sync-F : goal.for_each_mut-requires-sync-F
for_each_mut-requires-sync-F g c κs within =
    let D = param 1 g.row.D in
    let studio = studio_sync D g.D.Shelf c.type_bounds.send-D in
    captures_sync _ _ _ _ (also (shr_sync _ _ _ c.type_bounds.sync-R) (also (shr_sync _ _ _ sync) (also (shr_sync _ _ _ studio)
    (also (shr_sync _ _ _ c.type_bounds.sync-G) none))))

pub for_each_mut-requires-clause-accepts : goal.for_each_mut-requires-clause-accepts
for_each_mut-requires-clause-accepts g c κs within = λ i p lt is. (
  (
    record { shared = c.type_bounds.sync-R.shared },
    record { shared = c.type_bounds.sync-G.shared },
    each_read (CanPlay (in_slots (λ b. (goal.PointFilter-dyn g b).state b.1)) c.args.studio.now)
        c.args.players.now c.requires.players i p.now lt is,
  ),
  (
    param_send 1 _ (arg_send _ no _ c.type_bounds.send-D),
    record { shared = c.type_bounds.sync-R.shared },
    record { shared = c.type_bounds.sync-G.shared },
  ),
)

pub returns-clause-played : goal.returns-clause-played
returns-clause-played g c =
    zip_changed (Plays (in_slots (λ b. (goal.PointFilter-dyn g b).state b.1)) c.args.studio.now)
    c.args.players.now c.for_each_mut.new.s c.for_each_mut.auto.s
    (λ i d lt. let at = (c.for_each_mut.ensures i d lt).1 in (at.argument.now, at.after_call.now, at.argument_is, at.left, at.call))
