use Rattle.std.proofs.Common.{◌*◌, ◌∙◌, length, take, sym, subst, ap}
use Rattle.std.proofs.lemmas.Result.{IfOk-weaker}
use Rattle.std.specs.Arc.{arc_value}
use Rattle.xl_tile.specs.Overlay.{overlaid, Fits}
use Rattle.xl_tile.specs.declared.overlay.Overlay.{Overlay}
use Rattle.xl_tiles.specs.Table.{tile_of}
use Rattle.xl_tiles.proofs.FilledTiles.{front_fits, part_filled, whole_filled, whole_fits}
use Rattle.xl_tiles.proofs.filling.filled_tile.Goals as goal

pub of_front-requires-clause-full : goal.of_front-requires-clause-full
of_front-requires-clause-full c =
    let fits = whole_fits c.args.sheet.width c.args.sheet.height c.args.sheet.bpp c.args.tiles.now c.args.area
    c.args.uniform.now.pixel.now c.requires.bytes (arc_value c.args.uniform.now.buffer).items c.requires.buffer c.requires.tiled
    c.requires.within c.args.spot.col c.args.spot.row c.requires.touches.column c.requires.touches.row_in c.overlay_of-overlay.result
    c.overlay_of-overlay.ensures (sym c.if-covers.ensures) in
    rw c.tile_pixels-n.ensures.value fits

pub returns-then-covers-clause-value : goal.returns-then-covers-clause-value
returns-then-covers-clause-value c =
    let all = (arc_value c.args.uniform.now.buffer).items in
    let filled = whole_filled c.args.sheet.width c.args.sheet.height c.args.sheet.bpp c.args.tiles.now c.args.area
    c.args.uniform.now.pixel.now c.requires.bytes all c.requires.buffer c.requires.tiled
    c.requires.within c.args.spot.col c.args.spot.row c.requires.touches.column c.requires.touches.row_in c.overlay_of-overlay.result
    c.overlay_of-overlay.ensures (sym c.if-covers.ensures) in
    IfOk-weaker c.of_front.result _ _
    (λ t is. is ∙ (ap (λ n. take (n * c.args.sheet.bpp) all) c.tile_pixels-n.ensures.value ∙ filled))
    c.of_front.ensures.value

pub partly_filled-requires-clause-fits : goal.partly_filled-requires-clause-fits
partly_filled-requires-clause-fits c =
    let all = (arc_value c.args.uniform.now.buffer).items in
    let P : Overlay → Type 0 = λ o.
    Fits o (length (tile_of c.args.sheet.width c.args.tiles.now c.args.spot.col c.args.spot.row)) (length all) in
    subst P (sym c.from_front-front.ensures)
    (front_fits c.args.sheet.width c.args.sheet.height c.args.sheet.bpp c.args.tiles.now c.args.area
    c.args.uniform.now.pixel.now c.requires.bytes all c.requires.buffer c.requires.tiled
    c.requires.within c.args.spot.col c.args.spot.row c.requires.touches.column c.requires.touches.row_in c.overlay_of-overlay.result
    c.overlay_of-overlay.ensures)

pub returns-clause-value : goal.returns-clause-value
returns-clause-value c =
    let all = (arc_value c.args.uniform.now.buffer).items in
    let old = tile_of c.args.sheet.width c.args.tiles.now c.args.spot.col c.args.spot.row in
    c.in_ok-tile.ensures
    ∙ (ap (λ o. overlaid o all old) c.from_front-front.ensures
    ∙ part_filled c.args.sheet.width c.args.sheet.height c.args.sheet.bpp c.args.tiles.now c.args.area
    c.args.uniform.now.pixel.now c.requires.bytes all c.requires.buffer c.requires.tiled
    c.requires.within c.args.spot.col c.args.spot.row c.requires.touches.column c.requires.touches.row_in c.overlay_of-overlay.result
    c.overlay_of-overlay.ensures)
