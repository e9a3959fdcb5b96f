use Rattle.std.proofs.Common.{◌∙◌, sym}
use Rattle.xl_serving.proofs.Kept.{cut_written, memory_written}
use Rattle.xl_serving.proofs.closing.write_end.Goals as goal

pub returns-then-is_closed : goal.returns-then-is_closed
returns-then-is_closed g c = λ begun told kept. c.write_closed.ensures begun told kept

pub returns-then-is_cut : goal.returns-then-is_cut
returns-then-is_cut g c = λ begun told kept.
    cut_written g.K.Sink.held g.K.Sink.faults begun c.args.sink.now told c.args.out.now.items c.args.core.now.history.entries c.args.end
    c.args.failed (sym c.is_cut.ensures ∙ c.if-is_cut.true) kept

pub returns : goal.returns
returns g c = λ begun told kept.
    memory_written g.K.Sink.held g.K.Sink.faults begun c.args.sink.now c.write_line.new.sink told c.args.out.now.items _
    c.args.core.now.history.entries c.args.end c.args.failed (sym c.is_closed.ensures ∙ c.if-is_closed.false)
    (sym c.is_cut.ensures ∙ c.if-is_cut.false) kept c.deref.ensures.value c.write_line.ensures
