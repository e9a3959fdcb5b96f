-- The tiles that share a point with a rectangle, in parts.
use Rattle.std.specs.Prelude.{ℕ, List, map, flat_map, filter}
use Rattle.spec_document.specs.declared.Rect.{Rect}
use Rattle.spec_document.specs.declared.TileAt.{TileAt}
use Rattle.spec_document.specs.Rect.{count_from, do_meet}
use Rattle.spec_document.specs.Grid.{tile_rect, tiles_along}

-- those in the first n columns of a row
abbrev pub row_of : Rect → (w h row n : ℕ) → List TileAt
row_of r w h row n = filter (λ at. do_meet r (tile_rect w h at)) (map (λ col. record { col = col; row = row }) (count_from 0 n))

-- those in the first n rows
abbrev pub rows_of : Rect → (w h n : ℕ) → List TileAt
rows_of r w h n = filter (λ at. do_meet r (tile_rect w h at))
    (flat_map (λ row. map (λ col. record { col = col; row = row }) (count_from 0 (tiles_along w))) (count_from 0 n))
