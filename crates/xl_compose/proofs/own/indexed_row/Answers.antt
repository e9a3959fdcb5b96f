use Rattle.std.proofs.Common.{◌≡◌, ◌+◌, ◌*◌, arith}
use Rattle.xl_compose.specs.Own.{pixel_at}
use Rattle.xl_compose.proofs.RowSteps.{row_step}
use Rattle.xl_compose.proofs.own.indexed_row.Goals as goal

pub loop-k-preserved : goal.loop-k-preserved
loop-k-preserved c =
    let start : c.loop-k.k * 1 + 0 ≡ c.loop-k.k = omega arith in
    row_step c.loop-k.row c.loop-k.k _ (pixel_at 4 c.args.colours.now c.args.bytes.now) (omega arith) c.loop-k.invariant
    (rw start (c.colour.ensures))
