use Rattle.std.proofs.Common.{◌≡◌, ◌∙◌, subst}
use Rattle.std.specs.Prelude.{IfSome}
use Rattle.spec_hierarchy.specs.Tiles.{tile_bytes}
use Rattle.xl_tiles.specs.Area.{rect_of}
use Rattle.xl_tile.specs.Overlay.{overlaid}
use Rattle.xl_tiles.specs.Table.{plane_by, tile, tile_of}
use Rattle.xl_tiles.specs.Written.{written}
use Rattle.xl_tiles.proofs.LyingParts.{lies_inside, overlaid_tile}
use Rattle.xl_tiles.proofs.writing.written_tile.Goals as goal
use Rattle.xl_tiles.proofs.writing.written_tile.Goals.{in-Some, in-None+in_ok-tile-in-None}

pub patched_tile-requires-clause-fits : goal.patched_tile-requires-clause-fits
patched_tile-requires-clause-fits c =
    lies_inside c.args.sheet.width c.args.sheet.height c.args.sheet.bpp c.args.tiles.now c.args.area c.args.pixels.now.bytes.now
    c.args.spot.col c.args.spot.row c.overlay_of-overlay.result c.requires.tiled c.requires.within c.requires.touches.column
    c.requires.touches.row_in c.requires.bytes c.overlay_of-overlay.ensures

pub copied_tile-requires-clause-fits : goal.copied_tile-requires-clause-fits
copied_tile-requires-clause-fits c =
    lies_inside c.args.sheet.width c.args.sheet.height c.args.sheet.bpp c.args.tiles.now c.args.area c.args.pixels.now.bytes.now
    c.args.spot.col c.args.spot.row c.overlay_of-overlay.result c.requires.tiled c.requires.within c.requires.touches.column
    c.requires.touches.row_in c.requires.bytes c.overlay_of-overlay.ensures

pub returns-clause-value : goal.returns-clause-value
returns-clause-value c =
    let w = c.args.sheet.width in
    let h = c.args.sheet.height in
    let b = c.args.sheet.bpp in
    let o = c.overlay_of-overlay.result in
    let bytes = c.args.pixels.now.bytes.now in
    let old = tile_of w c.args.tiles.now c.args.spot.col c.args.spot.row in
    let is : overlaid o bytes old
    ≡ tile_bytes (written (plane_by w h b c.args.tiles.now) (rect_of c.args.area) bytes) (tile c.args.spot.col c.args.spot.row) =
    overlaid_tile w h b c.args.tiles.now c.args.area bytes c.args.spot.col c.args.spot.row o c.requires.tiled
    c.requires.touches.column c.requires.touches.row_in c.overlay_of-overlay.ensures in
    elim c.match-patched.branch [
      | in-Some w ↦
          w.tile-is ∙ (subst (λ found. IfSome found (λ t. t ≡ overlaid o bytes old)) w.in-Some.is c.in_ok-patched.ensures ∙ is)
      | in-None+in_ok-tile-in-None w ↦ w.tile-is ∙ (w.in_ok-tile-in-None.ensures.value ∙ is)
    ]
