use denote.Exit.{no}
use denote.Param.Send.{param_send, arg_send, shr_send}
use Rattle.xl_turn.proofs.Sent.{none, also, captures_send}
use Rattle.turn_rows.proofs.Sent.{taker_send, lock_sync, long_sync, word_sync}
use Rattle.turn_rows.proofs.turns.by_four.Goals as goal

pub join-seat-requires-send-F : goal.join-seat-requires-send-F
join-seat-requires-send-F g c κs within =
    captures_send _ _ _ _ (also (shr_send _ _ _ c.type_bounds.sync-R) (also (shr_send _ _ _ lock_sync) (also taker_send (also taker_send (also (shr_send _ _ _ long_sync) (also (shr_send _ _ _ word_sync) none))))))

pub join-seat-requires-send-A : goal.join-seat-requires-send-A
join-seat-requires-send-A g c κs within = param_send _ _ (arg_send _ no _ taker_send)
