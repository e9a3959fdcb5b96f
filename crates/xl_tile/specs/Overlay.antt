-- A block of the pixels of a buffer that lies over a tile.
use Rattle.std.specs.Prelude.{◌≡◌, ℕ, ◌+◌, ◌*◌, ◌≤◌, ◌^◌, ◌==◌, ◌&&◌, Bool, List, slice_index, length, Option, None, Some}
use Rattle.std.specs.Arc.{arc_value}
use Rattle.std.specs.declared.sync.Arc.{Arc}
use Rattle.spec_document.specs.Plane.{bytes_over}
use Rattle.xl_tile.specs.Block.{pixel_byte}
use Rattle.spec_document.specs.declared.TheConstants.{MAX_SIDE}
use Rattle.xl_tile.specs.declared.overlay.Overlay.{Overlay}
use Rattle.xl_tile.specs.declared.overlay.Patch.{Patch}

-- the bytes of the tile with the block over them, row by row
unfoldable pub overlaid : Overlay → (buffer tile : List ℕ) → List ℕ
overlaid o buffer tile =
    bytes_over 0 0 o.to.stride o.rows o.block.bpp (λ x y c.
    pixel_byte o.to o.from o.block.w o.block.h o.block.bpp buffer (slice_index tile ((y * o.to.stride + x) * o.block.bpp + c)) x y c)

-- the block is all of the tile
abbrev pub is_whole : Overlay → Bool
is_whole o = (o.to.x == 0 && o.to.y == 0) && (o.block.w == o.to.stride && o.block.h == o.rows)

-- the block is one of the buffer, and lies in the tile
pub record Fits (o : Overlay) (size room : ℕ) : Type 0 where
  pub size_is : size ≡ o.to.stride * o.rows * o.block.bpp
  pub to_across : o.to.x + o.block.w ≤ o.to.stride
  pub to_down : o.to.y + o.block.h ≤ o.rows
  pub wide : o.to.stride ≤ 64
  pub tall : o.rows ≤ 64
  pub from_across : o.from.x + o.block.w ≤ o.from.stride
  pub from_down : o.from.stride * (o.from.y + o.block.h) * o.block.bpp ≤ room
  pub from_tall : o.from.y + o.block.h ≤ MAX_SIDE
  pub small : room ≤ 2 ^ 30
  pub some : 1 ≤ o.block.bpp
  pub few : o.block.bpp ≤ 4

-- the bytes of a tile under a patch, if there is one
abbrev pub under : {Z : Type 0} → Option (Arc Patch Z) → (tile : List ℕ) → List ℕ
under None tile = tile
under (Some patch) tile = overlaid (arc_value patch).overlay (arc_value (arc_value patch).buffer).items tile

-- a patch, if there is one, lies in a tile of so many bytes
abbrev pub FitsOver : {Z : Type 0} → Option (Arc Patch Z) → (size : ℕ) → Type 0
FitsOver None size = Unit {0}
FitsOver (Some patch) size = Fits (arc_value patch).overlay size (length (arc_value (arc_value patch).buffer).items)
