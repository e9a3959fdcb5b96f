use Rattle.std.proofs.Common.{refl, arith}
use Rattle.xl_paint.proofs.KeptAlpha.{pixel_kept}
use Rattle.xl_paint.proofs.Weights.{pixel_fits}
use Rattle.xl_paint.proofs.alpha.keep_bytes.Goals as goal

pub loop-k-preserved : goal.loop-k-preserved
loop-k-preserved c =
    pixel_kept c.args.bpp c.args.kept c.loop-k.k c.args.old.now c.args.bytes.now c.loop-k.bytes _ c.requires.kept
    (omega (
      arith,
      c.requires.whole,
      c.requires.kept,
      c.loop-k.invariant.size,
      pixel_fits c.loop-k.k c.args.count c.args.bpp (omega arith),
    )) refl c.loop-k.invariant
