use Rattle.std.proofs.Common.{◌≤◌, ◌+◌, ◌*◌, ◌∙◌, length, rules, arith}
use Rattle.std.proofs.lemmas.Nat.{mul-le}
use Rattle.xl_tiles.proofs.RowLists.{one_row_more}
use Rattle.xl_tiles.proofs.table.TileTable.of_tiles.Goals as goal

pub tiles_from-part-requires : goal.tiles_from-part-requires
tiles_from-part-requires c = omega (
  arith,
  mul-le (c.loop-row.row + 1) c.args.columns c.args.rows c.args.columns (omega arith) (omega arith),
  c.requires.full,
)

pub loop-row-preserved : goal.loop-row-preserved
loop-row-preserved c =
    let within : (c.loop-row.row + 1) * c.args.columns ≤ length c.args.tiles.now =
    omega (
      arith,
      mul-le (c.loop-row.row + 1) c.args.columns c.args.rows c.args.columns (omega arith) (omega arith),
      c.requires.full,
    ) in
    one_row_more c.loop-row.invariant c.push.new.self.items c.in_ok-of_tiles.field-0 (search rules) (c.in_ok-of_tiles.ensures
    ∙ c.tiles_from-part.ensures) within
