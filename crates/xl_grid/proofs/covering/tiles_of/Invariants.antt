use Rattle.std.proofs.Common.{◌≡◌}
use Rattle.xl_grid.specs.Covering.{rows_of}
use Rattle.xl_grid.proofs.covering.tiles_of.Given as goal

-- the rows so far
abbrev pub invariant-loop-row : goal.invariant-loop-row
invariant-loop-row l = l.list.items ≡ rows_of l.rect l.w l.h l.row
