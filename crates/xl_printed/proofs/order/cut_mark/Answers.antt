use Rattle.std.proofs.Common.{arith}
use Rattle.xl_printed.proofs.Lining.{marked_is, unmarked_is}
use Rattle.xl_printed.proofs.order.cut_mark.Goals as goal
use Rattle.xl_printed.proofs.order.cut_mark.Goals.{else-len-gt0-via-then-len-gt0+else-word-len-eq101, else-len-gt0-via-else-len-gt0}

pub returns-then-word-len-eq101 : goal.returns-then-word-len-eq101
returns-then-word-len-eq101 c = marked_is c.args.word.now (omega arith) c.if-word-len-eq101.true

pub returns-else-len-gt0 : goal.returns-else-len-gt0
returns-else-len-gt0 c = elim c.else-len-gt0.branch [
  | else-len-gt0-via-then-len-gt0+else-word-len-eq101 w ↦ unmarked_is c.args.word.now (λ some last. w.if-word-len-eq101.false last)
  | else-len-gt0-via-else-len-gt0 w ↦ unmarked_is c.args.word.now (λ some last. absurd (omega arith))
]
