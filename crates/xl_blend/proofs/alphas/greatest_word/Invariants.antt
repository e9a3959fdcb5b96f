use Rattle.std.proofs.Common.{ℕ, ◌<◌, ◌≤◌, slice_index_or}
use Rattle.spec_document.specs.Over.{clear}
use Rattle.xl_blend.specs.Words.{word_of}
use Rattle.xl_blend.proofs.alphas.greatest_word.Given as goal

abbrev pub invariant-loop-pixel : goal.invariant-loop-pixel
invariant-loop-pixel l = (k : ℕ) → k < l.pixel-index → word_of (slice_index_or l.row k clear) ≤ l.greatest
