-- A block of pixels that is copied.
use Rattle.std.specs.Prelude.{ℕ, ◌+◌, ◌*◌, ◌-◌, Bool, ◌&&◌, nat_le, nat_lt, if◌then◌else◌, List, slice_index}
use Rattle.xl_tile.specs.declared.block.Spot.{Spot}

-- the new byte between two places, else the old one
abbrev pub byte_after : (at n old new k : ℕ) → ℕ
byte_after at n old new k = if nat_le at k && nat_lt k (at + n) then new else old

-- whether a point lies in the block of these sides that begins at a point
abbrev pub is_in : (left top w h x y : ℕ) → Bool
is_in left top w h x y = (nat_le left x && nat_lt x (left + w)) && (nat_le top y && nat_lt y (top + h))

-- the byte that is copied to a point, else the old one
abbrev pub pixel_byte : (to from : Spot) (w h bpp : ℕ) → List ℕ → (old x y c : ℕ) → ℕ
pixel_byte to from w h bpp bytes old x y c =
    if is_in to.x to.y w h x y then slice_index bytes (((y - to.y + from.y) * from.stride + (x - to.x + from.x)) * bpp + c) else old
