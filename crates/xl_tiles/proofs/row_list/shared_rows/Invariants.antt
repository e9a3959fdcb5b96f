use Rattle.std.proofs.Common.{◌≡◌, take}
use Rattle.xl_tiles.proofs.row_list.shared_rows.Given as goal

-- the rows so far
abbrev pub invariant-loop-row : goal.invariant-loop-row
invariant-loop-row l = l.own.items ≡ take l.row-index l.rows
