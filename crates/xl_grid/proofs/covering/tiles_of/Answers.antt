use Rattle.std.proofs.Common.{◌++◌, ◌∙◌, sym, ap}
use Rattle.xl_grid.specs.Covering.{row_of}
use Rattle.spec_document.specs.Grid.{tiles_along}
use Rattle.xl_grid.proofs.AddedTiles.{row_more}
use Rattle.xl_grid.proofs.covering.tiles_of.Goals as goal

pub loop-row-preserved : goal.loop-row-preserved
loop-row-preserved c =
    c.in_ok-add_row.ensures
    ∙ (ap (λ l. l ++ row_of c.args.rect c.args.w c.args.h c.loop-row.row (tiles_along c.args.w)) c.loop-row.invariant
    ∙ sym (row_more c.args.rect c.args.w c.args.h c.loop-row.row))
