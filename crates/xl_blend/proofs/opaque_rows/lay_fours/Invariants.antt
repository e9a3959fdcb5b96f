use Rattle.std.proofs.Common.{◌≡◌, ℕ, ◌-◌, ◌≤◌, ◌<◌, length, slice_index_or}
use Rattle.spec_document.specs.Over.{clear, IsPixel}
use Rattle.xl_blend.specs.Rows.{opaque_rows, opaque_so_far}
use Rattle.xl_blend.proofs.opaque_rows.lay_fours.Given as goal

abbrev pub invariant-loop-below : goal.invariant-loop-below
invariant-loop-below l = record {
  done : opaque_so_far l.mode l.at l.below l.above ≡ opaque_rows l.mode l.initial.below l.above;
  pixels : (k : ℕ) → k < l.at → IsPixel (slice_index_or l.above k clear);
  within : l.at ≤ length l.below;
}

abbrev pub decreases-loop-below : goal.decreases-loop-below
decreases-loop-below l = length l.initial.below - l.at
