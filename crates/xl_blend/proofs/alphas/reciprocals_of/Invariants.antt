use Rattle.std.proofs.Common.{◌≡◌, ℕ, ◌<◌, slice_index_or}
use Rattle.xl_blend.specs.Words.{reciprocal_of}
use Rattle.xl_blend.proofs.alphas.reciprocals_of.Given as goal

abbrev pub invariant-loop-i : goal.invariant-loop-i
invariant-loop-i l = (k : ℕ) → k < l.i → slice_index_or l.reciprocals k 0 ≡ reciprocal_of (slice_index_or l.wholes k 0)
