use Rattle.std.proofs.Common.{arith}
use Rattle.xl_ports.proofs.Pieces.{one_more}
use Rattle.xl_ports.proofs.writing.write_all.Goals as goal

pub loop-done-preserved : goal.loop-done-preserved
loop-done-preserved g c =
    let written = c.in_ok-done.ensures in
    record {
      within = omega (arith, written.within);
      so_far = one_more g.K.Sink.held g.K.Sink.faults _ _ _ _ _ _ c.loop-done.invariant.so_far written.taken written.cause;
    }
