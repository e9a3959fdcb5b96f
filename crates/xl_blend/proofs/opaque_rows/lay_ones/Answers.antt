use Rattle.std.proofs.Common.{◌≤◌, ◌∙◌, slice_index_or, sym, arith, refl, below_more}
use Rattle.spec_document.specs.Over.{clear, IsPixel}
use Rattle.xl_blend.proofs.SoFar.{so_far-more, so_far-all}
use Rattle.xl_blend.proofs.opaque_rows.lay_ones.Goals as goal

pub loop-i-init : goal.loop-i-init
loop-i-init c = record { done = refl; pixels = λ k h g. absurd (omega arith) }

pub loop-i-preserved : goal.loop-i-preserved
loop-i-preserved c = record {
  done = so_far-more _ _ _ _ _ _ _ (omega arith) (omega arith) c.over_opaque.ensures.value ∙ c.loop-i.invariant.done;
  pixels = λ k past within. below_more (λ k. c.args.from ≤ k → IsPixel (slice_index_or c.args.above.now k clear)) _
      (λ k h g. c.loop-i.invariant.pixels k g h) (λ _. c.over_opaque.ensures.pixel) k within past;
}

pub returns-clause-done : goal.returns-clause-done
returns-clause-done c = sym (so_far-all _ _ _ _ (omega arith)) ∙ c.loop-i.invariant.done
