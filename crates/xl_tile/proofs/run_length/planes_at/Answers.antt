use Rattle.std.proofs.Common.{arith}
use Rattle.std.proofs.lemmas.Result.{err_from_is_err_and}
use Rattle.xl_tile.proofs.Decoded.{stops, goes_on, ends}
use Rattle.xl_tile.proofs.run_length.planes_at.Goals as goal

pub returns-in_err-at : goal.returns-in_err-at
returns-in_err-at c =
    let p = err_from_is_err_and c.from_residual.result c.from_residual.ensures.1 in
    rw (p.1, p.2) (stops c.loop-c.invariant (omega arith) c.in_err-at.ensures.plane)

pub loop-c-preserved : goal.loop-c-preserved
loop-c-preserved c = goes_on c.loop-c.invariant
    (omega arith) c.in_ok-at.at c.plane_into.new.planes c.in_ok-at.ensures.before c.in_ok-at.ensures.plane

pub returns : goal.returns
returns c = ends c.loop-c.invariant (omega arith) (omega arith)
