use Rattle.std.proofs.Common.{◌*◌}
use Rattle.xl_tiles.specs.Repeated.{repeated}
use Rattle.xl_tiles.proofs.FreshTiles.{swap_done}
use Rattle.xl_tiles.proofs.filling.fill_area.Goals as goal

pub returns-clause-tiled : goal.returns-clause-tiled
returns-clause-tiled c =
    (swap_done c.args.sheet.width c.args.sheet.height c.args.sheet.bpp c.args.tiles.now c.in_ok-tiles.field-0 c.args.area
    c.tiles_of_area-range.result (repeated (c.args.area.w * c.args.area.h) c.args.pixel.now) c.requires.tiled
    c.tiles_of_area-range.ensures.value (rw c.in_ok-uniform.ensures.pixel at c.in_ok-tiles.ensures)).tiled

pub returns-clause-ok : goal.returns-clause-ok
returns-clause-ok c =
    (swap_done c.args.sheet.width c.args.sheet.height c.args.sheet.bpp c.args.tiles.now c.in_ok-tiles.field-0 c.args.area
    c.tiles_of_area-range.result (repeated (c.args.area.w * c.args.area.h) c.args.pixel.now) c.requires.tiled
    c.tiles_of_area-range.ensures.value (rw c.in_ok-uniform.ensures.pixel at c.in_ok-tiles.ensures)).plane
