use Rattle.std.proofs.Common.{◌∙◌, ap, sym, subst}
use Rattle.std.proofs.lemmas.Result.{IfOk-weaker, on_ok_weaker, on_err_weaker}
use Rattle.xl_tiles.specs.TileRows.{AreRows}
use Rattle.xl_tiles.proofs.RowLists.{flat, row_there, column_there, item_is, set_is, still_rows, either}
use Rattle.xl_tiles.proofs.row_list.replace_in_rows.Goals as goal

pub replace_in_row-requires-clause-row : goal.replace_in_row-requires-clause-row
replace_in_row-requires-clause-row c = row_there c.args.columns c.args.rows.now.items c.requires.rows c.args.i c.requires.place

pub replace_in_row-requires-clause-col : goal.replace_in_row-requires-clause-col
replace_in_row-requires-clause-col c = column_there c.args.columns c.args.rows.now.items c.requires.rows c.args.i c.requires.place

pub returns-clause-rows : goal.returns-clause-rows
returns-clause-rows c =
    either c.replace_in_row.result
    (λ is. subst (AreRows c.args.columns) (sym is)
    (still_rows c.args.columns c.args.rows.now.items c.requires.rows c.args.i c.requires.place c.args.tile))
    (λ is. subst (AreRows c.args.columns) (sym is) c.requires.rows) c.replace_in_row.ensures.after c.replace_in_row.ensures.err

pub returns-clause-result : goal.returns-clause-result
returns-clause-result c =
    IfOk-weaker c.replace_in_row.result _ _ (λ t h. h
    ∙ item_is c.args.columns c.args.rows.now.items c.requires.rows c.args.i c.requires.place) c.replace_in_row.ensures.result

pub returns-clause-after : goal.returns-clause-after
returns-clause-after c =
    on_ok_weaker c.replace_in_row.result
    (λ is. ap flat is ∙ set_is c.args.columns c.args.rows.now.items c.requires.rows c.args.i c.requires.place c.args.tile)
    c.replace_in_row.ensures.after

pub returns-clause-err : goal.returns-clause-err
returns-clause-err c = on_err_weaker c.replace_in_row.result (λ is. ap flat is) c.replace_in_row.ensures.err
