use Rattle.std.proofs.Common.{◌∙◌, slice_index_or, ap, arith, rules}
use Rattle.spec_document.specs.declared.Pixel.{Pixel}
use Rattle.spec_document.specs.Over.{clear, IsPixel}
use Rattle.xl_blend.specs.declared.fours.Four.{Four}
use Rattle.xl_blend.specs.Rows.{over_opaque}
use Rattle.xl_blend.proofs.SoFar.{so_far-none, so_far-four, four_more}
use Rattle.xl_blend.proofs.opaque_rows.lay_fours.Goals as goal

pub loop-below-init : goal.loop-below-init
loop-below-init c = record { done = so_far-none _ _ _; pixels = λ k h. absurd (omega arith); within = omega arith }

pub loop-below-preserved : goal.loop-below-preserved
loop-below-preserved c =
    let four = rw (c.four_at.ensures, c.four_at-in-loop-below.ensures) at c.over_four-four.ensures.value in
    let pixels = rw c.four_at-in-loop-below.ensures at c.over_four-four.ensures.pixels in
    record {
      done = rw c.put_four.ensures (so_far-four (λ (p : Pixel × Pixel). over_opaque c.args.mode p.0 p.1) c.loop-below.at
          c.loop-below.below c.args.above.now clear clear _ _ _ _ (omega arith) (omega arith)
          (ap (λ (f : Four). f.p) four) (ap (λ (f : Four). f.q) four) (ap (λ (f : Four). f.r) four)
          (ap (λ (f : Four). f.s) four) ∙ c.loop-below.invariant.done);
      pixels = four_more (λ k. IsPixel (slice_index_or c.args.above.now k clear)) c.loop-below.at
          c.loop-below.invariant.pixels pixels.0 pixels.1 pixels.2 pixels.3;
      within = search rules;
    }
