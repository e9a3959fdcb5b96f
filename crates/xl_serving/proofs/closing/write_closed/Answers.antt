use Rattle.std.proofs.Common.{◌∙◌}
use Rattle.xl_serving.proofs.Kept.{closed_written, unclosed_written}
use Rattle.xl_serving.proofs.closing.write_closed.Goals as goal

pub returns-in-Ok : goal.returns-in-Ok
returns-in-Ok g c = λ begun told kept.
    closed_written g.K.Sink.held g.K.Sink.faults begun c.args.sink.now c.write_or.new.sink told c.args.out.now.items _
    c.args.core.now.history.entries c.args.end c.args.failed _ _ c.requires kept (c.deref.ensures.value ∙ c.in-Ok.ensures.ok)
    c.closed_status.ensures c.write_or.ensures

pub returns-in-Err : goal.returns-in-Err
returns-in-Err g c = λ begun told kept.
    unclosed_written g.K.Sink.held g.K.Sink.faults begun c.args.sink.now c.write_line.new.sink told c.args.out.now.items _
    c.args.core.now.history.entries c.args.end c.args.failed c.requires kept (c.deref-in-Err.ensures.value ∙ c.in-Err.ensures.err)
    c.write_line.ensures
