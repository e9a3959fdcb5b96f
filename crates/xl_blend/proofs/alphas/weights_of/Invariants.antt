use Rattle.std.proofs.Common.{◌≡◌, ℕ, ◌<◌, ◌≤◌, slice_index_or}
use Rattle.spec_document.specs.Over.{clear}
use Rattle.xl_blend.specs.Words.{weight}
use Rattle.xl_blend.proofs.alphas.weights_of.Given as goal

abbrev pub invariant-loop-i : goal.invariant-loop-i
invariant-loop-i l = record {
  each : (k : ℕ) → k < l.i → slice_index_or l.weights k 0
      ≡ weight (slice_index_or l.below k clear) (slice_index_or l.above k clear);
  bytes : (k : ℕ) → k < l.i → slice_index_or l.weights k 0 ≤ 255;
}
