-- The part of a rectangle that lies in one tile, as a block that is laid over it.
use Rattle.std.specs.Prelude.{◌≡◌, ℕ, ◌-◌, ◌*◌, min}
use Rattle.xl_tile.specs.declared.overlay.Overlay.{Overlay}
use Rattle.xl_tiles.specs.Area.{IsOverlap}
use Rattle.xl_tiles.specs.declared.area.Area.{Area}

-- the block of the pixels that an area has in a tile of a plane, among the bytes of the area, row by row
pub record LiesIn (w h bpp col row : ℕ) (a : Area) (o : Overlay) : Type 0 where
  pub left : ℕ
  pub top : ℕ
  pub across : IsOverlap a.x a.w col left o.block.w
  pub down : IsOverlap a.y a.h row top o.block.h
  pub is : o
      ≡ record {
        to = record { x = left - 64 * col; y = top - 64 * row; stride = min 64 (w - 64 * col) };
        rows = min 64 (h - 64 * row);
        from = record { x = left - a.x; y = top - a.y; stride = a.w };
        block = record { w = o.block.w; h = o.block.h; bpp = bpp };
      }
