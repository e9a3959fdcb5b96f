-- The tiles of the flat layer's pixels.
use Rattle.std.proofs.Common.{◌≡◌, ℕ, suc, ◌+◌, ◌-◌, ◌*◌, ◌/◌, ◌%◌, ◌<◌, ◌≤◌, min, List, [], ◌∷◌, ◌++◌, length, slice_index}
use Rattle.std.proofs.Common.{sym, ◌∙◌, ap, subst, arith, mul-le-mul_right, mul_comm}
use Rattle.std.specs.Prelude.{flat_map}
use Rattle.std.proofs.lemmas.Nat.{div-mul-add, mod-mul-add, mul-le}
use Rattle.spec_document.specs.declared.Base.{Base}
use Rattle.spec_document.specs.declared.Pixel.{Pixel}
use Rattle.spec_document.specs.declared.TileAt.{TileAt}
use Rattle.spec_document.specs.Document.{Document, bytes_of_kind, picture_kind}
use Rattle.spec_document.specs.Greys.{pixels_of_base}
use Rattle.spec_document.specs.Grid.{tiles_along}
use Rattle.spec_document.specs.Limits.{AreBytes}
use Rattle.spec_document.specs.Picture.{picture, pixel_bytes, project}
use Rattle.spec_document.specs.Plane.{byte_at}
use Rattle.spec_document.specs.Rect.{count_from}
use Rattle.spec_document.proofs.Greys.{pixel_of_base, pixel_length, pixel_by_pixel, pixels_length}
use Rattle.spec_document.proofs.PlaneLemmas.{index-pieces, length-pieces}
use Rattle.spec_flat.specs.Flattened.{flat_layer}
use Rattle.spec_flat.proofs.Bytes.{byte_is}
use Rattle.spec_hierarchy.specs.Tiles.{tile_bytes}
use Rattle.xl_flat.specs.Flattening.{AreFlatTiles}
use Rattle.xl_tiles.specs.Table.{tile}
use Rattle.xl_tiles.proofs.FreshTiles.{first_more}
use Rattle.xl_tiles.proofs.Points.{over_is}

regroup : (y w x n c : ℕ) → (y * w + x) * n + c ≡ y * (w * n) + (x * n + c)
regroup y w x n c = omega arith

within_row : (x w c n : ℕ) → x < w → c < n → x * n + c < w * n
within_row x w c n hx hc =
    let more : suc x * n ≤ w * n = mul-le-mul_right n (omega (arith, hx)) in
    let one : suc x * n ≡ n + x * n = omega arith in
    omega (arith, hc, more, one)

-- byte c of the pixel in column x of row y of a part of a picture
part_byte : (base : Base) (P : ℕ → ℕ → Pixel) (left top w h x y c : ℕ) → x < w → y < h → c < bytes_of_kind (picture_kind base)
    → slice_index (pixels_of_base base
    (flat_map (λ v. flat_map (λ u. pixel_bytes (P u v)) (count_from left w)) (count_from top h)))
    ((y * w + x) * bytes_of_kind (picture_kind base) + c)
    ≡ slice_index (pixel_of_base base (P (left + x) (top + y))) c
part_byte base P left top w h x y c hx hy hc =
    let n = bytes_of_kind (picture_kind base) in
    let row : ℕ → List ℕ = λ v. flat_map (λ u. pixel_of_base base (P u v)) (count_from left w) in
    let each : (v : ℕ) → length (row v) ≡ w * n = λ v.
    length-pieces (λ u. pixel_of_base base (P u v)) n (λ u. pixel_length base (P u v)) left w in
    ap (λ bytes. slice_index bytes ((y * w + x) * n + c)) (pixel_by_pixel base P (count_from left w) (count_from top h))
    ∙ (ap (slice_index (flat_map row (count_from top h))) (regroup y w x n c)
    ∙ (index-pieces row (w * n) each top h y (x * n + c) hy (within_row x w c n hx hc)
    ∙ index-pieces (λ u. pixel_of_base base (P u (top + y))) n (λ u. pixel_length base (P u (top + y))) left w x c hx hc))

-- the picture of a tile is a tile of the layer
pub layer_tile : (d : Document) (at : TileAt) → pixels_of_base d.base (project d 0 at) ≡ tile_bytes (flat_layer d).plane at
layer_tile d at =
    let w = min 64 (d.width - 64 * at.col) in
    let h = min 64 (d.height - 64 * at.row) in
    over_is (pixels_of_base d.base (project d 0 at)) (64 * at.col) (64 * at.row) w h (bytes_of_kind (picture_kind d.base))
    (byte_at (flat_layer d).plane) (pixels_length d.base d 0 (64 * at.col) (64 * at.row) w h)
    (λ x y c hx hy hc.
    part_byte d.base (picture d 0) (64 * at.col) (64 * at.row) w h x y c hx hy hc
    ∙ sym (byte_is d (64 * at.col + x) (64 * at.row + y) c (omega (arith, hx)) (omega (arith, hy)) hc))

-- one tile of a row more
pub next_tile : (d : Document) (row col : ℕ) (tiles next : List (List ℕ)) (x : List ℕ) → col < tiles_along d.width
    → AreFlatTiles d (row * tiles_along d.width + col) tiles → next ≡ tiles ++ x ∷ []
    → x ≡ tile_bytes (flat_layer d).plane (tile col row) → AreBytes x
    → AreFlatTiles d (row * tiles_along d.width + (col + 1)) next
next_tile d row col tiles next x inside first is value bytes =
    let a = tiles_along d.width in
    let col_is : 0 + (row * a + col) % a ≡ col = omega (arith, mod-mul-add row a col inside) in
    let row_is : 0 + (row * a + col) / a ≡ row = omega (arith, div-mul-add row a col inside) in
    let more : (row * a + col) + 1 ≡ row * a + (col + 1) = omega arith in
    subst (λ k. AreFlatTiles d k next) more
    (first_more first next x is (value ∙ (λ i. tile_bytes (flat_layer d).plane (tile (sym col_is i) (sym row_is i)))) bytes)

-- columns or rows so far cost no more than all
pub part_cost : (old new count w h b : ℕ) → new ≤ old + count * (min b h * w) → new ≤ old + count * (w * h)
part_cost old new count w h b so_far =
    let part : min b h * w ≤ h * w = mul-le-mul_right w (omega arith) in
    let all : count * (min b h * w) ≤ count * (w * h) =
    mul-le count (min b h * w) count (w * h) (omega arith) (omega (arith, part, mul_comm h w)) in
    omega (arith, so_far, all)
