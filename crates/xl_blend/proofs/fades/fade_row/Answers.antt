use Rattle.std.proofs.Common.{◌∙◌, sym, arith}
use Rattle.xl_blend.proofs.RowLemmas.{faded_row-whole}
use Rattle.xl_blend.proofs.SoFar.{mapped_so_far-none, mapped_so_far-more, mapped_so_far-all}
use Rattle.xl_blend.proofs.fades.fade_row.Goals as goal

pub loop-pixel-init : goal.loop-pixel-init
loop-pixel-init c = mapped_so_far-none _ _

pub loop-pixel-preserved : goal.loop-pixel-preserved
loop-pixel-preserved c = mapped_so_far-more _ _ _ _ _ (omega arith) c.fade.ensures ∙ c.loop-pixel.invariant

pub returns : goal.returns
returns c = sym (mapped_so_far-all _ _ _ (omega arith)) ∙ c.loop-pixel.invariant

pub returns-then-part-eq255 : goal.returns-then-part-eq255
returns-then-part-eq255 c = rw c.if-part-eq255.true (sym (faded_row-whole c.args.row.now))
