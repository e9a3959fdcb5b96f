-- The byte planes that are spelled of a plane, in the order of writing.
use Rattle.std.specs.Prelude.{ℕ, ◌==◌, if◌then◌else◌, List, [], map, flat_map}
use Rattle.spec_document.specs.declared.TileAt.{TileAt}
use Rattle.spec_document.specs.Rect.{count_from}
use Rattle.spec_document.specs.Grid.{all_tiles}
use Rattle.spec_document.specs.Plane.{Plane}
use Rattle.spec_hierarchy.specs.Tiles.{tile_plane}

-- of a tile, one for each of the bytes of a pixel; none where its pixels stand as they are
abbrev pub tile_planes : (compression : ℕ) → Plane → TileAt → List (List ℕ)
tile_planes compression p t = if compression == 0 then [] else map (tile_plane p t) (count_from 0 p.bpp)

-- tile by tile, row by row
abbrev pub byte_planes : (compression : ℕ) → Plane → List (List ℕ)
byte_planes compression p = flat_map (tile_planes compression p) (all_tiles p.width p.height)
