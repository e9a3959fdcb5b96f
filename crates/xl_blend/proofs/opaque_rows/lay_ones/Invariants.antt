use Rattle.std.proofs.Common.{◌≡◌, ℕ, ◌≤◌, ◌<◌, slice_index_or}
use Rattle.spec_document.specs.Over.{clear, IsPixel}
use Rattle.xl_blend.specs.Rows.{opaque_so_far}
use Rattle.xl_blend.proofs.opaque_rows.lay_ones.Given as goal

abbrev pub invariant-loop-i : goal.invariant-loop-i
invariant-loop-i l = record {
  done : opaque_so_far l.mode l.i l.below l.above ≡ opaque_so_far l.mode l.from l.initial.below l.above;
  pixels : (k : ℕ) → l.from ≤ k → k < l.i → IsPixel (slice_index_or l.above k clear);
}
