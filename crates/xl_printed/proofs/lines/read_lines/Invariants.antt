use Rattle.xl_printed.proofs.Lining.{IsLinesLeft}
use Rattle.xl_printed.proofs.lines.read_lines.Given as goal

abbrev pub invariant-loop-index : goal.invariant-loop-index
invariant-loop-index l = IsLinesLeft l.session l.count l.index l.fn.text l.rest l.replies
