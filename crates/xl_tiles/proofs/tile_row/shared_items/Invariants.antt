use Rattle.std.proofs.Common.{◌≡◌, take}
use Rattle.xl_tiles.proofs.tile_row.shared_items.Given as goal

-- the tiles so far
abbrev pub invariant-loop-tile : goal.invariant-loop-tile
invariant-loop-tile l = l.own.items ≡ take l.tile-index l.tiles
