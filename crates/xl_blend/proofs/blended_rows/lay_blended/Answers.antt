use Rattle.std.proofs.Common.{slice_index_or, ◌∙◌, sym, arith}
use Rattle.std.proofs.lemmas.List.{map-id}
use Rattle.spec_document.specs.Over.{clear}
use Rattle.xl_blend.proofs.SoFar.{map-zip_first, map-zip_same}
use Rattle.xl_blend.proofs.Laid.{blended_by_clear, blended_over_opaque, other_rows}
use Rattle.xl_blend.proofs.blended_rows.lay_blended.Goals as goal

pub returns-then-is_clear : goal.returns-then-is_clear
returns-then-is_clear c =
    sym (map-zip_first _ (λ p. p) _ _ clear clear c.requires.lengths
    (λ k h. blended_by_clear c.args.mode (slice_index_or c.args.below.now k clear) (slice_index_or c.args.above.now k clear)
    (c.if-is_clear.ensures k (omega arith))) ∙ map-id _)
    ∙ other_rows c.args.mode c.args.below.now c.args.above.now c.requires.other

pub returns-then-is_opaque : goal.returns-then-is_opaque
returns-then-is_opaque c =
    c.lay_over_opaque.ensures.done
    ∙ map-zip_same _ _ _ _ clear clear c.requires.lengths
    (λ k h. sym (blended_over_opaque c.args.mode (slice_index_or c.args.below.now k clear)
    (slice_index_or c.args.above.now k clear) (c.lay_over_opaque.ensures.pixels k (omega arith)).a (c.if-is_opaque.ensures k h)))
    ∙ other_rows c.args.mode c.args.below.now c.args.above.now c.requires.other

pub returns-else-is_opaque : goal.returns-else-is_opaque
returns-else-is_opaque c =
    c.lay_over_any.ensures ∙ other_rows c.args.mode c.args.below.now c.args.above.now c.requires.other
