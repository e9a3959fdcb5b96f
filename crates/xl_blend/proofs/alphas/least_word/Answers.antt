use Rattle.std.proofs.Common.{arith, below_more}
use Rattle.xl_blend.proofs.alphas.least_word.Goals as goal

pub loop-pixel-preserved : goal.loop-pixel-preserved
loop-pixel-preserved c = record {
  least = below_more _ _ (λ k h. omega (arith, c.loop-pixel.invariant.least k h)) (omega arith);
  pixels = below_more _ _ c.loop-pixel.invariant.pixels c.word.ensures.bytes;
}
