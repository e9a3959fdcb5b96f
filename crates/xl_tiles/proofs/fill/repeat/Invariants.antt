use Rattle.xl_tiles.specs.Repeated.{IsRepeated}
use Rattle.xl_tiles.proofs.fill.repeat.Given as goal

-- the pieces so far
abbrev pub invariant-loop-i : goal.invariant-loop-i
invariant-loop-i l = IsRepeated l.piece l._i l.all.items
