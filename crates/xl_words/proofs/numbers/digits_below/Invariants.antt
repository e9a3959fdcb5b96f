use Rattle.xl_words.proofs.Decimals.{ReadsOn}
use Rattle.xl_words.proofs.numbers.digits_below.Given as goal

abbrev pub invariant-loop-b : goal.invariant-loop-b
invariant-loop-b l = ReadsOn l.limit l.value l.b-index l.word
