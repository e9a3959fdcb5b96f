-- Tiles of a rectangle that is filled with one pixel.
use Rattle.std.proofs.Common.{◌≡◌, ℕ, zero, suc, ◌+◌, ◌-◌, ◌*◌, ◌/◌, ◌<◌, ◌≤◌, min, Bool, true, false, ◌&&◌, cond, nat_le, nat_lt, ◌==◌}
use Rattle.std.proofs.Common.{List, [], ◌++◌, length, take, slice_index, refl, sym, ap, subst, ◌∙◌, arith, length-append, length-take-le, inl, inr}
use Rattle.std.proofs.lemmas.Bool.{cases_lt}
use Rattle.std.proofs.lemmas.Bool.Decides.{nat_tests}
use Rattle.std.proofs.lemmas.List.{get_or_append_left, get_or-append-add, get_or-take}
use Rattle.std.proofs.lemmas.Nat.{mul-add-lt, mul-le}
use Rattle.std.proofs.Math.Nat.{mul-div_cancel_left}
use Rattle.spec_document.specs.Grid.{tiles_along}
use Rattle.spec_document.specs.Limits.{AreBytes}
use Rattle.spec_fields.proofs.All.{all_append}
use Rattle.spec_fields.proofs.Steps.{chosen_true}
use Rattle.spec_hierarchy.specs.Tiles.{tile_bytes}
use Rattle.xl_tile.specs.Block.{is_in}
use Rattle.xl_tile.specs.Overlay.{is_whole, overlaid, Fits}
use Rattle.xl_tile.specs.declared.overlay.Overlay.{Overlay}
use Rattle.xl_tile.proofs.Overlays.{length_overlaid, index_overlaid}
use Rattle.xl_tile.proofs.Places.{byte_fits}
use Rattle.xl_tiles.specs.Area.{IsArea, IsOverlap, rect_of}
use Rattle.xl_tiles.specs.Lying.{LiesIn}
use Rattle.xl_tiles.specs.Repeated.{IsRepeated, repeated}
use Rattle.xl_tiles.specs.Table.{tile, tile_of, plane_by, AreTiled}
use Rattle.xl_tiles.specs.Written.{written}
use Rattle.xl_tiles.specs.declared.area.Area.{Area}
use Rattle.xl_tiles.proofs.WrittenParts.{choose, both_begin, written_here}

pub length_repeated : (n : ℕ) (piece : List ℕ) → length (repeated n piece) ≡ n * length piece
unfolding repeated
length_repeated zero piece = omega arith
length_repeated (suc n) piece = omega (arith, length-append piece (repeated n piece), length_repeated n piece)

each_repeated : (n : ℕ) (piece : List ℕ) (k c : ℕ) → k < n → c < length piece
    → slice_index (repeated n piece) (k * length piece + c) ≡ slice_index piece c
unfolding repeated
each_repeated zero piece k c hk hc = absurd (omega (arith, hk))
each_repeated (suc n) piece zero c hk hc =
    let place : 0 * length piece + c ≡ c = omega arith in
    ap (slice_index (piece ++ repeated n piece)) place ∙ get_or_append_left piece (repeated n piece) 0 c hc
each_repeated (suc n) piece (suc k) c hk hc =
    let place : suc k * length piece + c ≡ length piece + (k * length piece + c) = omega arith in
    ap (slice_index (piece ++ repeated n piece)) place
    ∙ (get_or-append-add piece (repeated n piece) (k * length piece + c) 0
    ∙ each_repeated n piece k c (omega (arith, hk)) hc)

-- a piece so many times is repeated
pub are_repeated : (n : ℕ) (piece : List ℕ) → IsRepeated piece n (repeated n piece)
are_repeated n piece = record { size = length_repeated n piece; each = each_repeated n piece }

pub bytes_repeated : (n : ℕ) (piece : List ℕ) → AreBytes piece → AreBytes (repeated n piece)
unfolding repeated
bytes_repeated zero piece are = tt
bytes_repeated (suc n) piece are = all_append (λ b. b < 256) piece (repeated n piece) are (bytes_repeated n piece are)

-- bytes that are as many as so many pixels have are those of one
same_size : (n a b : ℕ) → 0 < n → n * a ≡ n * b → a ≡ b
same_size n a b some e = sym (mul-div_cancel_left a some) ∙ (ap (λ m. m / n) e ∙ mul-div_cancel_left b some)

-- and so it is with those that a tile needs at most
pub few_pixels : (w h a b : ℕ) → w * h * a ≡ w * h * b → min 64 w * min 64 h * a ≡ min 64 w * min 64 h * b
few_pixels w h a b e =
    let fewer : min 64 w * min 64 h ≤ w * h = mul-le (min 64 w) (min 64 h) w h (omega arith) (omega arith) in
    elim (cases_lt 0 (w * h)) [
      | inl some ↦ ap (λ m. min 64 w * min 64 h * m) (same_size (w * h) a b some e)
      | inr none ↦
          let zero_is : min 64 w * min 64 h ≡ 0 = omega (arith, fewer, none) in
          let nothing : 0 * a ≡ 0 * b = omega arith in
          ap (λ m. m * a) zero_is ∙ (nothing ∙ ap (λ m. m * b) (sym zero_is))
    ]

-- a point of a tile is in a block that is all of it
inside : (X Y n m stride rows x y : ℕ) → ((X == 0 && Y == 0) && (n == stride && m == rows)) ≡ true → x < stride → y < rows
    → is_in X Y n m x y ≡ true
inside X Y n m stride rows x y whole hx hy = grind (arith, nat_tests, whole, hx, hy)

-- the four tests of a point that is in a block
in_block : (X Y n m x y : ℕ) → is_in X Y n m x y ≡ true → (X ≤ x) × (x < X + n) × (Y ≤ y) × (y < Y + m)
in_block X Y n m x y e =
    (grind (arith, nat_tests, e), grind (arith, nat_tests, e), grind (arith, nat_tests, e), grind (arith, nat_tests, e))

module _ (w h b : ℕ) (tiles : List (List ℕ)) (a : Area) (pixel : List ℕ) where
  abbrev all : List ℕ
  all = repeated (a.w * a.h) pixel

  -- each point of the rectangle has the bytes of the pixel
  module _ (size : length all ≡ a.w * a.h * b) where
    product : a.w * a.h * length pixel ≡ a.w * a.h * b
    product = sym (length_repeated (a.w * a.h) pixel) ∙ size

    byte_in_all : (x y c : ℕ) → x < a.w → y < a.h → c < b → slice_index all ((y * a.w + x) * b + c) ≡ slice_index pixel c
    byte_in_all x y c hx hy hc =
        let few : y * a.w + x < a.w * a.h = omega (arith, mul-add-lt y a.w x a.h hy hx) in
        let one : length pixel ≡ b = same_size (a.w * a.h) (length pixel) b (omega (arith, few)) product in
        ap (λ n. slice_index all ((y * a.w + x) * n + c)) (sym one)
        ∙ each_repeated (a.w * a.h) pixel (y * a.w + x) c few (omega (arith, hc, one))

    module _ (front : List ℕ) (repeats : IsRepeated pixel (min 64 a.w * min 64 a.h) front) (tiled : AreTiled w h b tiles)
        (within : IsArea w h a) (col row : ℕ) (col_in : col < tiles_along w) (row_in : row < tiles_along h) (o : Overlay)
        (lies : LiesIn w h b col row a o) where
      abbrev own : Overlay
      own = record o { from = record { x = 0; y = 0; stride = o.block.w } }

      abbrev tw : ℕ
      tw = min 64 (w - 64 * col)

      abbrev th : ℕ
      th = min 64 (h - 64 * row)

      block_few : o.block.w * o.block.h ≤ min 64 a.w * min 64 a.h
      block_few = mul-le o.block.w o.block.h (min 64 a.w) (min 64 a.h)
          (omega (arith, lies.across.in_span, lies.across.in_tile, lies.across.span_end, lies.across.tile_end))
          (omega (arith, lies.down.in_span, lies.down.in_tile, lies.down.span_end, lies.down.tile_end))

      front_size : length front ≡ min 64 a.w * min 64 a.h * b
      front_size = repeats.size ∙ few_pixels a.w a.h (length pixel) b product

      byte_in_front : (k c : ℕ) → k < o.block.w * o.block.h → c < b → slice_index front (k * b + c) ≡ slice_index pixel c
      byte_in_front k c hk hc =
          let few : k < min 64 a.w * min 64 a.h = omega (arith, hk, block_few) in
          let one : length pixel ≡ b = same_size (min 64 a.w * min 64 a.h) (length pixel) b (omega (arith, few))
          (few_pixels a.w a.h (length pixel) b product) in
          ap (λ n. slice_index front (k * n + c)) (sym one) ∙ repeats.each k c few (omega (arith, hc, one))

      -- the tile with the pixel wherever the rectangle is
      filled_here : (next : List ℕ) → length next ≡ tw * th * b
          → ((x y c : ℕ) → x < tw → y < th → c < b
          → slice_index next ((y * tw + x) * b + c)
          ≡ cond (is_in (lies.left - 64 * col) (lies.top - 64 * row) o.block.w o.block.h x y) (slice_index pixel c)
          (slice_index (tile_of w tiles col row) ((y * tw + x) * b + c)))
          → next ≡ tile_bytes (written (plane_by w h b tiles) (rect_of a) all) (tile col row)
      filled_here next full each =
          written_here w h b tiles a.x a.w a.y a.h all tiled col lies.left o.block.w row lies.top o.block.h lies.across lies.down
          col_in row_in next full
          (λ x y c hx hy hc.
          let left = lies.left in
          let top = lies.top in
          each x y c hx hy hc
          ∙ choose (is_in (left - 64 * col) (top - 64 * row) o.block.w o.block.h x y) (slice_index pixel c)
          (slice_index all (((y - (top - 64 * row) + (top - a.y)) * a.w + (x - (left - 64 * col) + (left - a.x))) * b + c))
          (slice_index (tile_of w tiles col row) ((y * tw + x) * b + c))
          (slice_index (tile_of w tiles col row) ((y * tw + x) * b + c))
          (λ on.
          let at = in_block (left - 64 * col) (top - 64 * row) o.block.w o.block.h x y on in
          sym (byte_in_all (x - (left - 64 * col) + (left - a.x)) (y - (top - 64 * row) + (top - a.y)) c
          (omega (arith, at.0, at.1, lies.across.in_span, lies.across.in_tile, lies.across.span_end))
          (omega (arith, at.2, at.3, lies.down.in_span, lies.down.in_tile, lies.down.span_end)) hc))
          refl)

      front_room : o.block.w * (0 + o.block.h) * b ≤ length front
      front_room = omega (arith, front_size, mul-le (o.block.w * o.block.h) b (min 64 a.w * min 64 a.h) b block_few (omega arith))

      -- the block is one of the front
      pub front_fits : Fits own (length (tile_of w tiles col row)) (length front)
      front_fits = subst (λ p. Fits (record p { from = record { x = 0; y = 0; stride = p.block.w } })
          (length (tile_of w tiles col row)) (length front)) (sym lies.is) (record {
            size_is = tiled.sizes col row col_in row_in;
            to_across = omega (arith, lies.across.in_tile, lies.across.tile_end, lies.across.span_end, within.across);
            to_down = omega (arith, lies.down.in_tile, lies.down.tile_end, lies.down.span_end, within.down);
            wide = omega arith;
            tall = omega arith;
            from_across = omega arith;
            from_down = front_room;
            from_tall = omega (arith, lies.down.in_tile, lies.down.tile_end);
            small = omega (
              arith,
              front_size,
              mul-le (min 64 a.w * min 64 a.h) b 4096 4
                  (omega (arith, mul-le (min 64 a.w) (min 64 a.h) 64 64 (omega arith) (omega arith))) tiled.few,
            );
            some = tiled.some;
            few = tiled.few;
          })

      -- a part of a tile
      pub part_filled : overlaid own front (tile_of w tiles col row)
          ≡ tile_bytes (written (plane_by w h b tiles) (rect_of a) all) (tile col row)
      part_filled = subst (λ p. overlaid (record p { from = record { x = 0; y = 0; stride = p.block.w } }) front
          (tile_of w tiles col row) ≡ tile_bytes (written (plane_by w h b tiles) (rect_of a) all) (tile col row)) (sym lies.is)
          (filled_here (overlaid flat front (tile_of w tiles col row)) (length_overlaid flat front (tile_of w tiles col row))
          (λ x y c hx hy hc.
          index_overlaid flat front (tile_of w tiles col row) x y c hx hy hc
          ∙ choose (is_in (lies.left - 64 * col) (lies.top - 64 * row) o.block.w o.block.h x y) _ (slice_index pixel c) _ _
          (λ on.
          let at = in_block (lies.left - 64 * col) (lies.top - 64 * row) o.block.w o.block.h x y on in
          let column : x - (lies.left - 64 * col) + 0 < o.block.w = omega (arith, at.0, at.1) in
          let line : y - (lies.top - 64 * row) + 0 < o.block.h = omega (arith, at.2, at.3) in
          byte_in_front ((y - (lies.top - 64 * row) + 0) * o.block.w + (x - (lies.left - 64 * col) + 0)) c
          (omega (arith, mul-add-lt (y - (lies.top - 64 * row) + 0) o.block.w (x - (lies.left - 64 * col) + 0) o.block.h line column))
          hc) refl))
        where
          flat : Overlay
          flat = record {
            to = record { x = lies.left - 64 * col; y = lies.top - 64 * row; stride = tw };
            rows = th;
            from = record { x = 0; y = 0; stride = o.block.w };
            block = record { w = o.block.w; h = o.block.h; bpp = b };
          }

      module _ (whole : is_whole o ≡ true) where
        all_of_it : ((lies.left - 64 * col == 0 && lies.top - 64 * row == 0) && (o.block.w == tw && o.block.h == th)) ≡ true
        all_of_it = subst (λ p. is_whole p ≡ true) lies.is whole

        wide_as : o.block.w ≡ tw
        wide_as = grind (arith, nat_tests, all_of_it)

        tall_as : o.block.h ≡ th
        tall_as = grind (arith, nat_tests, all_of_it)

        as_many : o.block.w * o.block.h ≡ tw * th
        as_many = λ i. wide_as i * tall_as i

        pub whole_fits : tw * th * b ≤ length front
        whole_fits = let same = ap (λ n. n * b) as_many in omega (arith, front_room, same)

        -- all of a tile
        pub whole_filled : take (tw * th * b) front ≡ tile_bytes (written (plane_by w h b tiles) (rect_of a) all) (tile col row)
        whole_filled =
            filled_here (take (tw * th * b) front) (length-take-le (tw * th * b) front whole_fits)
            (λ x y c hx hy hc.
            let on : is_in (lies.left - 64 * col) (lies.top - 64 * row) o.block.w o.block.h x y ≡ true =
            inside (lies.left - 64 * col) (lies.top - 64 * row) o.block.w o.block.h tw th x y all_of_it hx hy in
            let point : y * tw + x < o.block.w * o.block.h = omega (arith, as_many, mul-add-lt y tw x th hy hx) in
            get_or-take (tw * th * b) front ((y * tw + x) * b + c) 0 (byte_fits x y c tw th b hx hy hc)
            ∙ (byte_in_front (y * tw + x) c point hc
            ∙ sym (chosen_true (is_in (lies.left - 64 * col) (lies.top - 64 * row) o.block.w o.block.h x y) _ _ on)))
