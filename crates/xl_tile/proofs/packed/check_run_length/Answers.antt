use Rattle.std.proofs.Common.{arith}
use Rattle.std.proofs.lemmas.Result.{err_from_is_err_and}
use Rattle.xl_tile.proofs.PackedTiles.{check_stops, check_goes_on, check_ends}
use Rattle.xl_tile.proofs.packed.check_run_length.Goals as goal

pub loop-c-preserved : goal.loop-c-preserved
loop-c-preserved c = check_goes_on c.loop-c.invariant (omega arith) _ c.in_ok-at.ensures

pub returns : goal.returns
returns c = check_ends c.loop-c.invariant (omega arith)

pub returns-in_err-at : goal.returns-in_err-at
returns-in_err-at c =
    let p = err_from_is_err_and c.from_residual.result c.from_residual.ensures.1 in
    rw (p.1, p.2) (check_stops c.loop-c.invariant (omega arith) c.in_err-at.ensures)
