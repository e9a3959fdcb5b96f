use Rattle.xl_printed.proofs.Shaping.{AreSaved}
use Rattle.xl_printed.proofs.shape.session_saves.Given as goal

abbrev pub invariant-loop-line : goal.invariant-loop-line
invariant-loop-line l = AreSaved l.lines l.line-index l.saves
