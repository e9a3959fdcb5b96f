use Rattle.std.proofs.Common.{◌-◌, ◌*◌}
use Rattle.xl_tiles.proofs.writing.overlay_of.Goals as goal

pub returns : goal.returns
returns c = record {
  left = c.overlap-across.result.first;
  top = c.overlap-down.result.first;
  across = c.overlap-across.ensures;
  down = c.overlap-down.ensures;
  is = λ i. record {
    to = record {
      x = c.overlap-across.result.first - 64 * c.args.spot.col;
      y = c.overlap-down.result.first - 64 * c.args.spot.row;
      stride = c.tile_side.ensures i;
    };
    rows = c.tile_side-2.ensures i;
    from = record {
      x = c.overlap-across.result.first - c.args.area.x;
      y = c.overlap-down.result.first - c.args.area.y;
      stride = c.args.area.w;
    };
    block = record { w = c.overlap-across.result.len; h = c.overlap-down.result.len; bpp = c.args.sheet.bpp };
  };
}
