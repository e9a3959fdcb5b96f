-- The grid of tiles of 64 by 64 pixels. Those in the last column and row may be smaller.
use Rattle.std.specs.Prelude.{ℕ, ◌+◌, ◌-◌, ◌*◌, ◌/◌, min, Bool, ◌==◌, ◌&&◌, nat_lt, pos, List, map, flat_map, filter}
use Rattle.spec_document.specs.declared.Rect.{Rect}
use Rattle.spec_document.specs.declared.TileAt.{TileAt}
use Rattle.spec_document.specs.Rect.{count_from, do_meet}

-- the tiles are one
abbrev pub same_tile : TileAt → TileAt → Bool
same_tile a b = a.col == b.col && a.row == b.row

-- the tiles along a side
abbrev pub tiles_along : ℕ → ℕ
tiles_along side = (side + 63) / 64

-- whether the tile is on the grid of a sheet
abbrev pub is_on_grid : (w h : ℕ) → TileAt → Bool
is_on_grid w h at = nat_lt at.col (tiles_along w) && nat_lt at.row (tiles_along h)

abbrev pub tile_rect : (w h : ℕ) → TileAt → Rect
tile_rect w h at =
    record { x = pos (64 * at.col); y = pos (64 * at.row); w = min 64 (w - 64 * at.col); h = min 64 (h - 64 * at.row) }

-- the tiles of a sheet, row by row
abbrev pub all_tiles : (w h : ℕ) → List TileAt
all_tiles w h =
    flat_map (λ row. map (λ col. record { col = col; row = row }) (count_from 0 (tiles_along w))) (count_from 0 (tiles_along h))

-- the tiles that share a point with a rectangle, row by row
abbrev pub tiles_of : Rect → (w h : ℕ) → List TileAt
tiles_of r w h = filter (λ at. do_meet r (tile_rect w h at)) (all_tiles w h)
