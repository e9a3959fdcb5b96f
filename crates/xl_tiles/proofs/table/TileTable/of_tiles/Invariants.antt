use Rattle.xl_tiles.proofs.RowLists.{FirstRows}
use Rattle.xl_tiles.proofs.table.TileTable.of_tiles.Given as goal

-- the rows so far
abbrev pub invariant-loop-row : goal.invariant-loop-row
invariant-loop-row l = FirstRows l.columns l.row l.tiles l.list.items
