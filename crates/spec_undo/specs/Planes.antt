-- How many tiles differ between two planes.
use Rattle.std.specs.Prelude.{ℕ, ◌+◌, ◌*◌, ◌==◌, Bool, not, ◌&&◌, bytes_eq, if◌then◌else◌, length, filter}
use Rattle.spec_document.specs.declared.TileAt.{TileAt}
use Rattle.spec_document.specs.Grid.{tiles_along, all_tiles}
use Rattle.spec_document.specs.Plane.{Plane}
use Rattle.spec_hierarchy.specs.Tiles.{tile_bytes}

-- how many tiles a plane has
abbrev pub tile_count : Plane → ℕ
tile_count p = tiles_along p.height * tiles_along p.width

-- the sides and the bytes per pixel are the same
abbrev pub are_alike : Plane → Plane → Bool
are_alike p q = p.width == q.width && (p.height == q.height && p.bpp == q.bpp)

-- a tile's bytes in the one plane are not those in the other
abbrev pub differ_at : Plane → Plane → TileAt → Bool
differ_at p q t = not (bytes_eq (tile_bytes p t) (tile_bytes q t))

-- the tiles whose bytes differ; of planes that are not alike the tiles of both
unfoldable pub changed_tiles : Plane → Plane → ℕ
changed_tiles p q =
    if are_alike p q then length (filter (differ_at p q) (all_tiles p.width p.height)) else tile_count p + tile_count q
