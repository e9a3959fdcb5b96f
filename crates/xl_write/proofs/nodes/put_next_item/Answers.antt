use Rattle.std.proofs.lemmas.Result.{on_ok_weaker}
use Rattle.xl_write.proofs.Followed.{item_appended}
use Rattle.xl_write.proofs.nodes.put_next_item.Goals as goal

pub returns-clause-piece : goal.returns-clause-piece
returns-clause-piece g c =
    on_ok_weaker c.put_item.result
    (item_appended g.C.PlaneCoder.fits c.args.compression c.args.item.now c.args.unfinished.now.bytes c.put_item.new.out
    c.args.unfinished.now.begins.items c.push.new.self.items
    c.len.result c.len.ensures c.in_ok-push.ensures.items)
    c.put_item.ensures.written
