-- All that differs is below 2 ^ 32, so no sum was cut.
use Rattle.std.proofs.Common.{arith}
use Rattle.spec_undo.proofs.Small.{changed_fits}
use Rattle.xl_undo.proofs.counting.changed_tiles.Goals as goal

pub returns : goal.returns
returns c =
    let fits = changed_fits c.args.before.now c.args.after.now c.know_limits.ensures c.know_limits-2.ensures in
    omega (arith, fits, c.sum_of_parts.ensures)
