use Rattle.std.proofs.Common.{◌≡◌, length, map, take}
use Rattle.xl_printed.proofs.shape.counts.Given as goal

abbrev pub invariant-loop-session : goal.invariant-loop-session
invariant-loop-session l = l.counts.items ≡ map length (take l.session-index l.saves)
