use Rattle.std.proofs.Common.{slice_index_or, ◌∙◌, ap, sym, map, arith}
use Rattle.std.proofs.lemmas.List.{map-id}
use Rattle.spec_document.specs.Over.{clear}
use Rattle.xl_blend.specs.Shown.{shown}
use Rattle.xl_blend.proofs.SoFar.{map-zip_first, map-zip_second, map-zip_same}
use Rattle.xl_blend.proofs.Laid.{over_by_opaque, over_by_clear, over_clear, normal_over_opaque}
use Rattle.xl_blend.proofs.normal_rows.lay_normal.Goals as goal

pub returns-then-is_opaque : goal.returns-then-is_opaque
returns-then-is_opaque c =
    c.copy_from_slice.ensures.after
    ∙ sym (map-zip_second _ (λ p. p) _ _ clear clear c.requires.lengths
    (λ k h. over_by_opaque _ _ (c.if-is_opaque.ensures k (omega arith))) ∙ map-id _)

pub returns-then-is_clear : goal.returns-then-is_clear
returns-then-is_clear c =
    c.show.ensures ∙ sym (map-zip_first _ shown _ _ clear clear c.requires.lengths
    (λ k h. over_by_clear _ _ (c.if-is_clear.ensures k (omega arith))))

pub returns-then-is_clear-2 : goal.returns-then-is_clear-2
returns-then-is_clear-2 c =
    c.show-then-is_clear-2.ensures ∙ ap (map shown) c.copy_from_slice-then-is_clear-2.ensures.after
    ∙ sym (map-zip_second _ shown _ _ clear clear c.requires.lengths (λ k h. over_clear _ _ (c.if-is_clear-2.ensures k h)))

pub returns-then-is_opaque-2 : goal.returns-then-is_opaque-2
returns-then-is_opaque-2 c =
    c.lay_over_opaque.ensures.done
    ∙ map-zip_same _ _ _ _ clear clear c.requires.lengths
    (λ k h. normal_over_opaque (slice_index_or c.args.below.now k clear) (slice_index_or c.args.above.now k clear)
    (c.lay_over_opaque.ensures.pixels k (omega arith)) (c.if-is_opaque-2.ensures k h))
