use Rattle.xl_printed.proofs.Merges.{AreTaken}
use Rattle.xl_printed.proofs.merging.is_merge.Given as goal

abbrev pub invariant-loop-word : goal.invariant-loop-word
invariant-loop-word l = AreTaken l.saves l.order l.word-index l.merging
