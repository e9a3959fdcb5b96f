use Rattle.std.proofs.Common.{◌∙◌, sym, arith}
use Rattle.xl_blend.proofs.SoFar.{mapped_so_far-none, mapped_so_far-more, mapped_so_far-all}
use Rattle.xl_blend.proofs.normal_rows.show.Goals as goal

pub loop-pixel-init : goal.loop-pixel-init
loop-pixel-init c = mapped_so_far-none _ _

pub loop-pixel-preserved : goal.loop-pixel-preserved
loop-pixel-preserved c = mapped_so_far-more _ _ _ _ _ (omega arith) c.shown_of.ensures ∙ c.loop-pixel.invariant

pub returns : goal.returns
returns c = sym (mapped_so_far-all _ _ _ (omega arith)) ∙ c.loop-pixel.invariant
