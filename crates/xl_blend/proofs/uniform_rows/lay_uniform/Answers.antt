use Rattle.std.proofs.Common.{◌∙◌, sym, arith}
use Rattle.spec_document.specs.declared.Pixel.{Pixel}
use Rattle.spec_document.specs.Over.{clear}
use Rattle.xl_blend.proofs.SoFar.{map-zip_first}
use Rattle.xl_blend.proofs.uniform_rows.lay_uniform.Goals as goal

pub returns : goal.returns
returns c =
    c.fill.ensures
    ∙ sym (map-zip_first _ (λ (_ : Pixel). c.over_pixel-pixel.result) _ _ clear clear c.requires.lengths
    (λ k h. rw (c.requires.below k h, c.requires.above k (omega arith)) (sym c.over_pixel-pixel.ensures)))
