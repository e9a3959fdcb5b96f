-- Rows of pixels, one after another.
use Rattle.std.proofs.Common.{◌≡◌, ℕ, ◌+◌, ◌*◌, ◌<◌, true, List, length, slice_index, refl, sym, ◌∙◌, ap, arith}
use Rattle.std.specs.Prelude.{is_none, ◌+ℤ◌, pos}
use Rattle.std.proofs.lemmas.Nat.{mul-add-lt}
use Rattle.spec_document.specs.declared.Rect.{Rect}
use Rattle.spec_document.specs.Rect.{part_above_0}
use Rattle.spec_document.specs.Plane.{Plane, byte_at}
use Rattle.spec_document.specs.Document.{Document}
use Rattle.spec_document.specs.Limits.{AreBytes}
use Rattle.xl_tiles.specs.Repeated.{IsRepeated, repeated}
use Rattle.xl_tiles.proofs.FilledTiles.{are_repeated, bytes_repeated}
use Rattle.xl_paint.specs.declared.places.Site.{Site}
use Rattle.xl_paint.specs.declared.places.Spread.{Spread}
use Rattle.xl_paint.specs.declared.places.Spread.TheVariants.{Rows, Pixel}
use Rattle.xl_paint.specs.Paint.{spread_over}
use Rattle.spec_edit.specs.Effect.{mixed}
use Rattle.xl_paint.specs.Filling.{AreRows, HasRows, byte_in, in_rows, weight_at}
use Rattle.xl_paint.proofs.Weights.{no_selection, pixel_fits}

-- uniform rows
pub uniform_are_rows : (w h : ℕ) (pixel row all : List ℕ) → IsRepeated pixel w row → IsRepeated row h all
    → AreRows w h (length pixel) (λ x y c. slice_index pixel c) all
uniform_are_rows w h pixel row all across down = record {
  size = down.size ∙ ap (λ n. h * n) across.size;
  each = λ column y c hx hy hc.
      let start : y * (w * length pixel) + (column * length pixel + c) ≡ y * length row + (column * length pixel + c) =
      ap (λ n. y * n + (column * length pixel + c)) (sym across.size) in
      ap (slice_index all) start
      ∙ (down.each y (column * length pixel + c) hy (omega (arith, across.size, mul-add-lt column (length pixel) c w hx hc))
      ∙ across.each column c hx hc);
}

-- one pixel, again and again
pub pixel_rows : (w h : ℕ) (pixel : List ℕ) → AreRows w h (length pixel) (λ x y c. slice_index pixel c) (repeated (w * h) pixel)
pixel_rows w h pixel =
    let all = are_repeated (w * h) pixel in
    record {
      size = all.size ∙ omega arith;
      each = λ column y c hx hy hc.
          let place : y * (w * length pixel) + (column * length pixel + c) ≡ (y * w + column) * length pixel + c = omega arith in
          ap (slice_index (repeated (w * h) pixel)) place
          ∙ all.each (y * w + column) c (omega (arith, mul-add-lt y w column h hy hx)) hc;
    }

pub spread_bytes : (rect : Rect) (spread : Spread) (given : List ℕ) → AreBytes given → AreBytes (spread_over rect spread given)
spread_bytes rect Rows given are = are
spread_bytes rect Pixel given are = bytes_repeated (rect.w * rect.h) given are

-- bytes that are given row by row
pub given_are_rows : (w h n : ℕ) (bytes : List ℕ) → length bytes ≡ w * h * n → AreRows w h n (in_rows (w * n) n bytes) bytes
given_are_rows w h n bytes full = record { size = full ∙ omega arith; each = λ column row c hx hy hc. refl }

-- and there are enough of them
pub given_rows : (w h n : ℕ) (bytes : List ℕ) → length bytes ≡ w * h * n → HasRows w h n (w * n) bytes
given_rows w h n bytes full row hy = omega (arith, full, pixel_fits row h (w * n) hy)

-- one uniform row, again and again
pub one_row : (w h n : ℕ) (pixel row : List ℕ) → length pixel ≡ n → IsRepeated pixel w row → HasRows w h n 0 row
one_row w h n pixel row size across y hy = omega (arith, across.size, ap (λ m. w * m) size)

pub one_row_is : (w n : ℕ) (pixel row : List ℕ) → length pixel ≡ n → IsRepeated pixel w row → (column y c : ℕ) → column < w → c < n
    → in_rows 0 n row column y c ≡ slice_index pixel c
one_row_is w n pixel row size across column y c hx hc =
    let start : y * 0 + (column * n + c) ≡ column * length pixel + c = omega (arith, ap (λ m. column * m) size) in
    ap (slice_index row) start ∙ across.each column c hx (omega (arith, size))

-- rows of which each byte has another name
pub same_rows : (w h n : ℕ) (a b : ℕ → ℕ → ℕ → ℕ) (bytes : List ℕ)
    → ((column row c : ℕ) → column < w → row < h → c < n → a column row c ≡ b column row c)
    → AreRows w h n a bytes → AreRows w h n b bytes
same_rows w h n a b bytes same rows = record {
  size = rows.size;
  each = λ column row c hx hy hc. rows.each column row c hx hy hc ∙ same column row c hx hy hc;
}

-- without a selection all bytes are the new ones
pub whole_rows : (d : Document) (site : Site) (p : Plane) (rect : Rect) (new : ℕ → ℕ → ℕ → ℕ) (bytes : List ℕ)
    → is_none d.selection ≡ true
    → AreRows rect.w rect.h p.bpp new bytes → AreRows rect.w rect.h p.bpp (byte_in d site p rect new) bytes
whole_rows d site p rect new bytes none rows =
    same_rows rect.w rect.h p.bpp new (byte_in d site p rect new) bytes
    (λ column row c hx hy hc.
    let x = part_above_0 rect.x + column in
    let y = part_above_0 rect.y + row in
    sym (no_selection site.indexed d (site.x +ℤ pos x) (site.y +ℤ pos y) (new column row c) (byte_at p x y c) none)) rows

-- bytes that go in one for one
pub mixed_rows : (d : Document) (site : Site) (p : Plane) (rect : Rect) (a b : ℕ → ℕ → ℕ → ℕ) (bytes : List ℕ)
    → ((column row c : ℕ) → column < rect.w → row < rect.h → c < p.bpp → a column row c ≡ b column row c)
    → AreRows rect.w rect.h p.bpp (byte_in d site p rect a) bytes → AreRows rect.w rect.h p.bpp (byte_in d site p rect b) bytes
mixed_rows d site p rect a b bytes same rows =
    same_rows rect.w rect.h p.bpp (byte_in d site p rect a) (byte_in d site p rect b) bytes
    (λ column row c hx hy hc.
    let x = part_above_0 rect.x + column in
    let y = part_above_0 rect.y + row in
    ap (λ v. mixed (weight_at d site x y) v (byte_at p x y c)) (same column row c hx hy hc)) rows
