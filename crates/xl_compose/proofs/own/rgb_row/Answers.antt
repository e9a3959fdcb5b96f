use Rattle.std.proofs.Common.{◌≡◌, ◌+◌, ◌*◌, arith, refl}
use Rattle.xl_compose.specs.Own.{pixel_at}
use Rattle.xl_compose.proofs.RowSteps.{row_step}
use Rattle.xl_compose.proofs.own.rgb_row.Goals as goal

pub loop-k-preserved : goal.loop-k-preserved
loop-k-preserved c = λ colours.
    let start : c.loop-k.k * 3 + 0 ≡ 3 * c.loop-k.k = omega arith in
    let same : c.loop-k.k * 3 ≡ 3 * c.loop-k.k = omega arith in
    row_step c.loop-k.row c.loop-k.k _ (pixel_at 0 colours c.args.bytes.now) (omega arith) (c.loop-k.invariant colours)
    (rw (start, same) refl)
