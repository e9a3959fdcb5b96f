use Rattle.std.proofs.Common.{◌∙◌}
use Rattle.xl_tiles.proofs.RowLists.{row_there, column_there, item_is}
use Rattle.xl_tiles.proofs.row_list.tile_in_rows.Goals as goal

pub row_at-requires : goal.row_at-requires
row_at-requires c = row_there c.args.columns c.args.rows.now c.requires.rows c.args.i c.requires.place

pub at-requires : goal.at-requires
at-requires c = rw c.row_at.ensures (column_there c.args.columns c.args.rows.now c.requires.rows c.args.i c.requires.place)

pub returns : goal.returns
returns c =
    let read = rw c.row_at.ensures at c.at.ensures in
    read ∙ item_is c.args.columns c.args.rows.now c.requires.rows c.args.i c.requires.place
