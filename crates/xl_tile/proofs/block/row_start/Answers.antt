use Rattle.std.proofs.Common.{◌+◌, arith}
use Rattle.xl_tile.proofs.Places.{row_fits}
use Rattle.xl_tile.proofs.block.row_start.Goals as goal

pub overflow_mul-result-2 : goal.overflow_mul-result-2
overflow_mul-result-2 c =
    let fits = row_fits c.args.spot.x c.args.block.w (c.args.spot.y + c.args.row) c.args.spot.stride
    (c.args.spot.y + c.args.block.h) c.args.block.bpp c.requires.across (omega arith) in
    omega (arith, fits)

pub returns-clause-fits : goal.returns-clause-fits
returns-clause-fits c =
    let fits = row_fits c.args.spot.x c.args.block.w (c.args.spot.y + c.args.row) c.args.spot.stride
    (c.args.spot.y + c.args.block.h) c.args.block.bpp c.requires.across (omega arith) in
    omega (arith, fits)
