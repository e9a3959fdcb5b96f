use Rattle.std.proofs.Common.{length}
use Rattle.xl_printed.proofs.Lining.{IsWordsLeft}
use Rattle.xl_printed.proofs.order.read_words.Given as goal

abbrev pub invariant-loop-word : goal.invariant-loop-word
invariant-loop-word l = IsWordsLeft l.fn.text l.rest l.words.items

abbrev pub decreases-loop-word : goal.decreases-loop-word
decreases-loop-word l = length l.rest
