-- What the thread captures may be sent: the runtime, the allocator and a session.
use denote.Param.{param}
use Rattle.std.proofs.Crossing.{sync}
use Rattle.xcf_sessions.proofs.Sent.{lent_session}
use Rattle.two_sessions.proofs.fade_beside.Goals as goal

pub join-one-requires-send-F : goal.join-one-requires-send-F
join-one-requires-send-F g c κs within =
    lent_session (param 1 g.row.D) g.D.Shelf _ _ _ _ _ _ _ _ _ _ _ c.type_bounds.send-D c.type_bounds.sync-R sync
