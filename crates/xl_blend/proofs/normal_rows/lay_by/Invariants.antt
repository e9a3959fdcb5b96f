use Rattle.std.proofs.Common.{◌≡◌, ℕ, ◌<◌, ◌≤◌, length, slice_index_or}
use Rattle.spec_document.specs.declared.Mode.TheVariants.{Normal}
use Rattle.spec_document.specs.declared.Pixel.{Pixel}
use Rattle.spec_document.specs.Over.{over, clear}
use Rattle.xl_blend.specs.Rows.{over_rows}
use Rattle.xl_blend.specs.Words.{alpha_over}
use Rattle.xl_blend.proofs.SoFar.{so_far}
use Rattle.xl_blend.proofs.normal_rows.lay_by.Given as goal

abbrev pub invariant-loop-i : goal.invariant-loop-i
invariant-loop-i l = record {
  done : so_far (λ (p : Pixel × Pixel). over Normal p.0 p.1) l.i l.below l.above ≡ over_rows Normal l.initial.below l.above;
  rest : (k : ℕ) → l.i ≤ k → k < length l.below
      → slice_index_or l.wholes k 0 ≡ alpha_over (slice_index_or l.below k clear) (slice_index_or l.above k clear);
}
