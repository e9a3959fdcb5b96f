use Rattle.std.proofs.Common.{refl}
use Rattle.std.proofs.lemmas.Result.{on_ok_weaker}
use Rattle.xl_write.proofs.SheetWalk.{sheet_appended}
use Rattle.xl_write.proofs.channels.put_channel.Goals as goal

pub returns-clause-piece : goal.returns-clause-piece
returns-clause-piece g c =
    on_ok_weaker c.put_sheet.result
    (sheet_appended g.C.PlaneCoder.fits c.args.compression c.args.is_selection _ c.args.channel.now c.args.unfinished.now.bytes
    c.put_sheet.new.out c.args.unfinished.now.begins.items
    c.push.new.self.items c.len.result refl
    c.len.ensures c.in_ok-push.ensures.items)
    c.put_sheet.ensures.written
