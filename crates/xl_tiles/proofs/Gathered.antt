-- Byte c of each pixel of a tile is a plane of it.
use Rattle.std.proofs.Common.{◌≡◌, ℕ, ◌+◌, ◌*◌, ◌<◌, List, length, slice_index, ap, ◌∙◌, arith}
use Rattle.std.proofs.lemmas.Nat.{mul-add-lt}
use Rattle.spec_document.specs.declared.TileAt.{TileAt}
use Rattle.spec_document.specs.Plane.{Plane, byte_at, bytes_over}
use Rattle.spec_document.proofs.PlaneLemmas.{index-bytes_over}
use Rattle.spec_hierarchy.specs.Tiles.{tile_width, tile_height, tile_bytes, tile_plane}
use Rattle.xl_tile.proofs.Points.{over_is}

gathered : (p : Plane) (left top w h c : ℕ) (xs : List ℕ) → length xs ≡ w * h
    → ((x y : ℕ) → x < w → y < h → slice_index xs (y * w + x) ≡ byte_at p (left + x) (top + y) c)
    → xs ≡ bytes_over left top w h 1 (λ x y k. byte_at p x y c)
gathered p left top w h c xs size each =
    over_is xs left top w h 1 (λ x y k. byte_at p x y c) (omega (arith, size)) (λ x y k hx hy hk.
    let place : (y * w + x) * 1 + k ≡ y * w + x = omega (arith, hk) in
    ap (slice_index xs) place ∙ each x y hx hy)

-- byte c of each pixel of a tile
pub gathered_tile : (p : Plane) (t : TileAt) (c : ℕ) (xs tile : List ℕ) → length xs ≡ tile_width p.width t * tile_height p.height t
    → c < p.bpp → tile ≡ tile_bytes p t
    → ((k : ℕ) → k < tile_width p.width t * tile_height p.height t → slice_index xs k ≡ slice_index tile (k * p.bpp + c))
    → xs ≡ tile_plane p t c
gathered_tile p t c xs tile size hc is each =
    let w = tile_width p.width t in
    let h = tile_height p.height t in
    gathered p (64 * t.col) (64 * t.row) w h c xs size (λ x y hx hy.
    each (y * w + x) (omega (arith, mul-add-lt y w x h hy hx))
    ∙ (ap (λ bytes. slice_index bytes ((y * w + x) * p.bpp + c)) is
    ∙ index-bytes_over (byte_at p) (64 * t.col) (64 * t.row) w h p.bpp x y c hx hy hc))
