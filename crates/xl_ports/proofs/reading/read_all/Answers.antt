use Rattle.std.proofs.Common.{arith}
use Rattle.xl_ports.proofs.Fronts.{one_read}
use Rattle.xl_ports.proofs.reading.read_all.Goals as goal

pub loop-filled-preserved : goal.loop-filled-preserved
loop-filled-preserved g c =
    let so_far = c.loop-filled.invariant in
    let more = c.in_ok-taken.ensures in
    record {
      filled = omega (arith, more.within);
      short = omega (arith, more.short);
      given = one_read _ _ _ _ _ _ _ so_far.given more.front more.given;
      reads = omega (arith, so_far.reads, more.reads);
      no_fault = cc (more.cause, so_far.no_fault);
    }
