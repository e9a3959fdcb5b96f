use Rattle.std.proofs.Common.{◌≡◌, ◌++◌}
use Rattle.xl_grid.specs.Covering.{row_of}
use Rattle.xl_grid.proofs.covering.add_row.Given as goal

-- the columns so far
abbrev pub invariant-loop-col : goal.invariant-loop-col
invariant-loop-col l = l.list.items ≡ l.initial.list.items ++ row_of l.rect l.w l.h l.row l.col
