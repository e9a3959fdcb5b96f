use Rattle.std.proofs.Common.{◌≡◌, ℕ, ◌<◌, ◌≤◌, slice_index_or}
use Rattle.spec_document.specs.Over.{clear}
use Rattle.xl_blend.specs.Words.{alpha_over}
use Rattle.xl_blend.proofs.alphas.wholes_of.Given as goal

abbrev pub invariant-loop-i : goal.invariant-loop-i
invariant-loop-i l = record {
  each : (k : ℕ) → k < l.i → slice_index_or l.wholes k 0
      ≡ alpha_over (slice_index_or l.below k clear) (slice_index_or l.above k clear);
  bytes : (k : ℕ) → k < l.i → slice_index_or l.wholes k 0 ≤ 255;
}
