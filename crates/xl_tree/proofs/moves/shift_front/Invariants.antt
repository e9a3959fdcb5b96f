use Rattle.std.proofs.Common.{◌≡◌, ◌++◌, map, take, drop}
use Rattle.xl_tree.specs.Moves.{shifted}
use Rattle.xl_tree.proofs.moves.shift_front.Given as goal

abbrev pub invariant-loop-at : goal.invariant-loop-at
invariant-loop-at g l = l.run ≡ map (shifted l.from l.to) (take l.at l.fn.run) ++ drop l.at l.fn.run
