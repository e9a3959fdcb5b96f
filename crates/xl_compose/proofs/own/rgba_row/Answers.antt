use Rattle.std.proofs.Common.{◌≡◌, ◌+◌, ◌*◌, arith}
use Rattle.xl_compose.specs.Own.{pixel_at}
use Rattle.xl_compose.proofs.RowSteps.{row_step}
use Rattle.xl_compose.proofs.own.rgba_row.Goals as goal

pub loop-k-preserved : goal.loop-k-preserved
loop-k-preserved c = λ colours.
    let start : c.loop-k.k * 4 + 0 ≡ 4 * c.loop-k.k = omega arith in
    let same : c.loop-k.k * 4 ≡ 4 * c.loop-k.k = omega arith in
    row_step c.loop-k.row c.loop-k.k _ (pixel_at 1 colours c.args.bytes.now) (omega arith) (c.loop-k.invariant colours)
    (rw (start, same) (c.pixel_of.ensures))
