use Rattle.xl_printed.proofs.Looking.{IsCauseLeft}
use Rattle.xl_printed.proofs.causes.code_of.Given as goal

abbrev pub invariant-loop-code : goal.invariant-loop-code
invariant-loop-code l = IsCauseLeft l.code-items l.code-index l.number
