use Rattle.std.proofs.Common.{◌≡◌, slice_index_or, ◌∙◌, sym, arith}
use Rattle.spec_document.specs.Over.{clear}
use Rattle.xl_blend.specs.Words.{weight}
use Rattle.xl_blend.proofs.SoFar.{so_far-none, so_far-more, so_far-all, rest-more}
use Rattle.xl_blend.proofs.blended_rows.lay_by.Goals as goal

pub loop-i-init : goal.loop-i-init
loop-i-init c = record { done = so_far-none _ _ _; rest = λ k _ h. c.requires.each k h }

pub loop-i-preserved : goal.loop-i-preserved
loop-i-preserved c = record {
  done = so_far-more _ _ _ _ _ _ _ (omega arith) (omega arith) c.blend_by.ensures ∙ c.loop-i.invariant.done;
  rest = rest-more (λ k p. slice_index_or c.args.weights.now k 0
      ≡ weight p (slice_index_or c.args.above.now k clear)) _ _ _ _ c.loop-i.invariant.rest;
}

pub returns : goal.returns
returns c = sym (so_far-all _ _ _ _ (omega arith)) ∙ c.loop-i.invariant.done
