-- The parts of a rectangle that are laid over the tiles of a plane.
use Rattle.std.proofs.Common.{◌≡◌, ℕ, ◌+◌, ◌-◌, ◌*◌, ◌<◌, ◌≤◌, min, List, length}
use Rattle.std.proofs.Common.{sym, subst, arith}
use Rattle.std.proofs.lemmas.Nat.{mul-le}
use Rattle.spec_document.specs.Grid.{tiles_along}
use Rattle.spec_document.specs.declared.TheConstants.{MAX_SIDE}
use Rattle.spec_hierarchy.specs.Tiles.{tile_bytes}
use Rattle.xl_tile.specs.Overlay.{overlaid, Fits}
use Rattle.xl_tile.specs.declared.overlay.Overlay.{Overlay}
use Rattle.xl_tile.proofs.Overlays.{length_overlaid, index_overlaid}
use Rattle.xl_tiles.specs.Area.{IsArea, rect_of}
use Rattle.xl_tiles.specs.Lying.{LiesIn}
use Rattle.xl_tiles.specs.Table.{tile, tile_of, plane_by, AreTiled}
use Rattle.xl_tiles.specs.Written.{written}
use Rattle.xl_tiles.specs.declared.area.Area.{Area}
use Rattle.xl_tiles.proofs.WrittenParts.{written_here}

module _ (w h b : ℕ) (tiles : List (List ℕ)) (a : Area) (bytes : List ℕ) (col row : ℕ) (o : Overlay) where
  -- the part of an area that lies in a tile fits there
  pub lies_inside : AreTiled w h b tiles → IsArea w h a → col < tiles_along w → row < tiles_along h
      → length bytes ≡ a.w * a.h * b → LiesIn w h b col row a o
      → Fits o (length (tile_of w tiles col row)) (length bytes)
  lies_inside tiled within col_in row_in size lies =
      let left = lies.left in
      let top = lies.top in
      let n = o.block.w in
      let m = o.block.h in
      let across = lies.across in
      let down = lies.down in
      let plane : a.w * a.h ≤ MAX_SIDE * MAX_SIDE =
      mul-le a.w a.h MAX_SIDE MAX_SIDE (omega (arith, within.across, tiled.width)) (omega (arith, within.down, tiled.height)) in
      let room : a.w * a.h * b ≤ MAX_SIDE * MAX_SIDE * 4 = mul-le (a.w * a.h) b (MAX_SIDE * MAX_SIDE) 4 plane tiled.few in
      let part : a.w * (top - a.y + m) ≤ a.w * a.h =
      mul-le a.w (top - a.y + m) a.w a.h (omega arith) (omega (arith, down.in_span, down.span_end)) in
      let from : a.w * (top - a.y + m) * b ≤ a.w * a.h * b =
      mul-le (a.w * (top - a.y + m)) b (a.w * a.h) b part (omega arith) in
      subst (λ o. Fits o (length (tile_of w tiles col row)) (length bytes)) (sym lies.is) (record {
        size_is = tiled.sizes col row col_in row_in;
        to_across = omega (arith, across.in_tile, across.tile_end, across.span_end, within.across);
        to_down = omega (arith, down.in_tile, down.tile_end, down.span_end, within.down);
        wide = omega arith;
        tall = omega arith;
        from_across = omega (arith, across.in_span, across.span_end);
        from_down = omega (arith, from, size);
        from_tall = omega (arith, down.in_span, down.span_end, within.down, tiled.height);
        small = omega (arith, room, size);
        some = tiled.some;
        few = tiled.few;
      })

  -- the tile with the block over it is that of the plane into which the area was written
  pub overlaid_tile : AreTiled w h b tiles → col < tiles_along w → row < tiles_along h → LiesIn w h b col row a o
      → overlaid o bytes (tile_of w tiles col row) ≡ tile_bytes (written (plane_by w h b tiles) (rect_of a) bytes) (tile col row)
  overlaid_tile tiled col_in row_in lies =
      let left = lies.left in
      let top = lies.top in
      let n = o.block.w in
      let m = o.block.h in
      let own : Overlay = record {
        to = record { x = left - 64 * col; y = top - 64 * row; stride = min 64 (w - 64 * col) };
        rows = min 64 (h - 64 * row);
        from = record { x = left - a.x; y = top - a.y; stride = a.w };
        block = record { w = n; h = m; bpp = b };
      } in
      subst (λ o. overlaid o bytes (tile_of w tiles col row)
      ≡ tile_bytes (written (plane_by w h b tiles) (rect_of a) bytes) (tile col row)) (sym lies.is)
      (written_here w h b tiles a.x a.w a.y a.h bytes tiled col left n row top m lies.across lies.down col_in row_in
      (overlaid own bytes (tile_of w tiles col row)) (length_overlaid own bytes (tile_of w tiles col row))
      (λ x y c hx hy hc. index_overlaid own bytes (tile_of w tiles col row) x y c hx hy hc))
