use Rattle.std.proofs.Common.{◌≡◌, ◌≤◌, ◌<◌, ◌∙◌, cond, subst, arith}
use Rattle.std.specs.Prelude.{not, bytes_eq}
use Rattle.spec_document.specs.Grid.{tiles_along}
use Rattle.spec_hierarchy.specs.Tiles.{tile_bytes}
use Rattle.spec_undo.specs.Planes.{differ_at}
use Rattle.xl_tiles.specs.Table.{plane_by, tile}
use Rattle.xl_tiles.proofs.Counts.{one_counted}
use Rattle.xl_tiles.proofs.Tables.{tile_is}
use Rattle.xl_tiles.proofs.changes.changed_in_row.Goals as goal

pub loop-col-preserved : goal.loop-col-preserved
loop-col-preserved c =
    let p = plane_by c.args.sheet.width c.args.sheet.height c.args.sheet.bpp c.args.tiles.now in
    let q = plane_by c.args.sheet.width c.args.sheet.height c.args.sheet.bpp c.args.others.now in
    let there : c.loop-col.col < tiles_along c.args.sheet.width = omega arith in
    let own : c.at.result.now ≡ tile_bytes p (tile c.loop-col.col c.args.row) =
    (rw c.tiles_along-columns.ensures at c.at.ensures) ∙ tile_is c.args.sheet.width c.args.sheet.height c.args.sheet.bpp c.args.tiles.now c.requires.tiled c.loop-col.col
    c.args.row there c.requires.row in
    let other : c.at-in-loop-col.result.now ≡ tile_bytes q (tile c.loop-col.col c.args.row) =
    (rw c.tiles_along-columns.ensures at c.at-in-loop-col.ensures) ∙ tile_is c.args.sheet.width c.args.sheet.height c.args.sheet.bpp c.args.others.now c.requires.others
    c.loop-col.col c.args.row there c.requires.row in
    let next : c.difference-count.result
    ≡ cond (not (bytes_eq (tile_bytes p (tile c.loop-col.col c.args.row)) (tile_bytes q (tile c.loop-col.col c.args.row)))) 1
    0 =
    subst (λ same. c.difference-count.result ≡ cond (not same) 1 0)
    (λ i. bytes_eq (own i) (other i)) c.difference-count.ensures.value in
    record {
      scratch = c.difference-count.auto.scratch ∙ c.loop-col.invariant.scratch;
      other_scratch = c.difference-count.auto.other_scratch ∙ c.loop-col.invariant.other_scratch;
      few = omega (arith, c.loop-col.invariant.few, c.difference-count.ensures.few);
      counted = one_counted (differ_at p q)
          (λ col. tile col c.args.row) c.loop-col.col c.loop-col.count c.difference-count.result c.loop-col.invariant.counted next;
    }
