use Rattle.std.proofs.Common.{map, string_bytes}
use Rattle.xl_sessions.proofs.Stops.{forget_played}
use Rattle.xl_sessions.proofs.setting.Setting.play_line.Goals as goal

pub returns-in-Call : goal.returns-in-Call
returns-in-Call g c = rw c.in-Call.is c.play_call.ensures

pub returns-in-Save : goal.returns-in-Save
returns-in-Save g c = rw c.in-Save.is (c.play_save.ensures _ (map string_bytes c.args.digests.now.items))

pub returns-in-Forget : goal.returns-in-Forget
returns-in-Forget g c =
    rw c.in-Forget.is (forget_played g.D.Shelf.shelf_state c.args.self.now.studio.now c.args.self.now.session c.in-Forget.slot
    c.args.seat.now _ _ (map string_bytes c.args.digests.now.items) c.requires.seat c.forget.ensures)
