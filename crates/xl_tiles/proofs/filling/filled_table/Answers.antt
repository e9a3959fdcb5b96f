use Rattle.std.proofs.Common.{◌≡◌, ◌+◌, ◌*◌, ◌<◌, arith, subst, length}
use Rattle.spec_document.specs.Grid.{tiles_along}
use Rattle.xl_tiles.specs.Area.{rect_of}
use Rattle.xl_tiles.specs.Repeated.{repeated}
use Rattle.xl_tiles.specs.Swapped.{Swapped}
use Rattle.xl_tiles.specs.Table.{plane_by}
use Rattle.xl_tiles.specs.Written.{written}
use Rattle.xl_tiles.proofs.FreshTiles.{swapped_more}
use Rattle.xl_tiles.proofs.Tables.{place_below}
use Rattle.xl_tiles.proofs.filling.filled_table.Goals as goal

pub replace-requires : goal.replace-requires
replace-requires c =
    let spot = c.spot_of-spot.ensures in
    let col_in : c.spot_of-spot.result.col < tiles_along c.args.sheet.width =
    omega (arith, spot.col_in, c.requires.right, c.requires.within.across) in
    let row_in : c.spot_of-spot.result.row < tiles_along c.args.sheet.height =
    omega (arith, spot.row_in, c.requires.bottom, c.requires.within.down) in
    rw c.tiles_along-columns.ensures (omega (
      arith,
      place_below c.spot_of-spot.result.row c.spot_of-spot.result.col (tiles_along c.args.sheet.height)
          (tiles_along c.args.sheet.width) row_in col_in,
      c.requires.tiled.count,
      c.loop-k.invariant.count,
    ))

pub loop-k-preserved : goal.loop-k-preserved
loop-k-preserved c =
    let spot = c.spot_of-spot.ensures in
    let col_in : c.spot_of-spot.result.col < tiles_along c.args.sheet.width =
    omega (arith, spot.col_in, c.requires.right, c.requires.within.across) in
    let row_in : c.spot_of-spot.result.row < tiles_along c.args.sheet.height =
    omega (arith, spot.row_in, c.requires.bottom, c.requires.within.down) in
    let there : c.spot_of-spot.result.row * tiles_along c.args.sheet.width + c.spot_of-spot.result.col < length c.loop-k.next =
    omega (
      arith,
      place_below c.spot_of-spot.result.row c.spot_of-spot.result.col (tiles_along c.args.sheet.height)
          (tiles_along c.args.sheet.width) row_in col_in,
      c.requires.tiled.count,
      c.loop-k.invariant.count,
    ) in
    swapped_more c.loop-k.invariant c.spot_of-spot.result.col c.spot_of-spot.result.row spot.col spot.row col_in there
    c.replace.new.self c.in_ok-tile.tile
    (rw c.tiles_along-columns.ensures at c.in_ok-replace.ensures.after) c.in_ok-tile.ensures.value c.in_ok-tile.ensures.bytes

pub returns : goal.returns
returns c =
    let whole : c.loop-k.k ≡ c.args.range.across * c.args.range.down = omega arith in
    subst (λ k. Swapped c.args.sheet.width c.args.sheet.height
    (written (plane_by c.args.sheet.width c.args.sheet.height c.args.sheet.bpp c.args.tiles.now)
    (rect_of c.args.area) (repeated (c.args.area.w * c.args.area.h) c.args.uniform.now.pixel.now)) c.args.range k c.args.tiles.now c.loop-k.next)
    whole c.loop-k.invariant
