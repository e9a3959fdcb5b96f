use Rattle.std.proofs.Common.{◌^◌}
use Rattle.xl_words.proofs.Decimals.{ReadsOn}
use Rattle.xl_printed.proofs.causes.digits.Given as goal

abbrev pub invariant-loop-b : goal.invariant-loop-b
invariant-loop-b l = ReadsOn (2 ^ 64) l.value l.b-index l.word
