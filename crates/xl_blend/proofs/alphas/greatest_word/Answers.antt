use Rattle.std.proofs.Common.{arith, below_more}
use Rattle.xl_blend.proofs.alphas.greatest_word.Goals as goal

pub loop-pixel-preserved : goal.loop-pixel-preserved
loop-pixel-preserved c = below_more _ _ (λ k h. omega (arith, c.loop-pixel.invariant k h)) (omega arith)
