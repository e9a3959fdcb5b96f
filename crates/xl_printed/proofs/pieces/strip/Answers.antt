use Rattle.std.proofs.Common.{sym, ◌∙◌, arith}
use Rattle.xl_printed.proofs.Looking.{strip_short}
use Rattle.xl_printed.proofs.pieces.strip.Goals as goal

pub returns-in_default : goal.returns-in_default
returns-in_default c =
    sym c.loop-b.invariant ∙ strip_short c.args.front.now c.loop-b.rest.now c.loop-b.b-index (omega arith) (omega arith)
