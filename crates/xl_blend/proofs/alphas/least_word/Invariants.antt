use Rattle.std.proofs.Common.{ℕ, ◌<◌, ◌≤◌, slice_index_or}
use Rattle.spec_document.specs.Over.{clear, IsPixel}
use Rattle.xl_blend.specs.Words.{word_of}
use Rattle.xl_blend.proofs.alphas.least_word.Given as goal

abbrev pub invariant-loop-pixel : goal.invariant-loop-pixel
invariant-loop-pixel l = record {
  least : (k : ℕ) → k < l.pixel-index → l.least ≤ word_of (slice_index_or l.row k clear);
  pixels : (k : ℕ) → k < l.pixel-index → IsPixel (slice_index_or l.row k clear);
}
