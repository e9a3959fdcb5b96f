use Rattle.std.proofs.Common.{◌≡◌, ℕ, ◌<◌, ◌≤◌, slice_index}
use Rattle.xl_paint.specs.Filling.{threshold}
use Rattle.xl_paint.proofs.mixing.threshold.Given as goal

-- the weights so far are all or nothing, and the others are as they were
abbrev pub invariant-loop-weight : goal.invariant-loop-weight
invariant-loop-weight l = record {
  done : (k : ℕ) → k < l.weight-index → slice_index l.weights k ≡ threshold (slice_index l.initial.weights k);
  left : (k : ℕ) → l.weight-index ≤ k → slice_index l.weights k ≡ slice_index l.initial.weights k;
}
