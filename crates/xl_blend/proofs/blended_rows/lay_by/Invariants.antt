use Rattle.std.proofs.Common.{◌≡◌, ℕ, ◌<◌, ◌≤◌, length, slice_index_or}
use Rattle.spec_document.specs.declared.Pixel.{Pixel}
use Rattle.spec_document.specs.Over.{over_blended, clear}
use Rattle.xl_blend.specs.Rows.{blended_rows}
use Rattle.xl_blend.specs.Words.{weight}
use Rattle.xl_blend.proofs.SoFar.{so_far}
use Rattle.xl_blend.proofs.blended_rows.lay_by.Given as goal

abbrev pub invariant-loop-i : goal.invariant-loop-i
invariant-loop-i l = record {
  done : so_far (λ (p : Pixel × Pixel). over_blended l.mode p.0 p.1) l.i l.below l.above
      ≡ blended_rows l.mode l.initial.below l.above;
  rest : (k : ℕ) → l.i ≤ k → k < length l.below
      → slice_index_or l.weights k 0 ≡ weight (slice_index_or l.below k clear) (slice_index_or l.above k clear);
}
