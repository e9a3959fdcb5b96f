use Rattle.std.proofs.Common.{length, arith}
use Rattle.xl_paint.proofs.Weights.{pixel_fits, spread_more}
use Rattle.xl_paint.proofs.mixing.spread.Goals as goal

pub fill_part-requires : goal.fill_part-requires
fill_part-requires c = omega (arith, pixel_fits c.loop-k.k (length c.args.weights.now) c.args.bpp (omega arith))

pub loop-k-preserved : goal.loop-k-preserved
loop-k-preserved c =
    spread_more c.args.weights.now c.loop-k.out c.fill_part.new.out c.loop-k.k c.args.bpp c.loop-k.invariant
    c.fill_part.ensures.each
