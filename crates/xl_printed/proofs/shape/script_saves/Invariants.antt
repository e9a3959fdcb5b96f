use Rattle.xl_printed.proofs.Shaping.{AreListed}
use Rattle.xl_printed.proofs.shape.script_saves.Given as goal

abbrev pub invariant-loop-session : goal.invariant-loop-session
invariant-loop-session l = AreListed l.script l.session l.saves.items
