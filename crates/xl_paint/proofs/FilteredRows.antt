-- Pixels whose first bytes go through a table, in place.
use Rattle.std.proofs.Common.{◌≡◌, ℕ, ◌+◌, ◌-◌, ◌*◌, ◌<◌, ◌≤◌, Bool, true, false, ◌&&◌, ◌==◌, cond, nat_lt, List, ◌++◌}
use Rattle.std.proofs.Common.{take, drop, length, slice_index, refl, sym, ◌∙◌, ap, subst, arith, inl, inr}
use Rattle.std.proofs.lemmas.Bool.{cases_lt}
use Rattle.std.proofs.lemmas.List.{append-nil, drop_all, take_all}
use Rattle.std.proofs.lemmas.Bool.Decides.{nat_tests}
use Rattle.std.proofs.lemmas.Nat.{mul-add-lt}
use Rattle.spec_document.specs.declared.Rect.{Rect}
use Rattle.spec_document.specs.Rect.{part_above_0}
use Rattle.spec_document.specs.Plane.{Plane, byte_at}
use Rattle.spec_document.specs.Document.{Document, Layer, has_alpha}
use Rattle.spec_edit.specs.Effect.{keeps_alpha, filtered}
use Rattle.xl_doc.specs.Sheet.{Sheet}
use Rattle.xl_tiles.specs.Area.{bytes_in}
use Rattle.xl_tiles.specs.Block.{byte_after}
use Rattle.xl_tiles.specs.Written.{IsWithin}
use Rattle.xl_paint.specs.declared.places.LayerPart.TheVariants.{Pixels}
use Rattle.xl_paint.specs.Filling.{AreRows, byte_in, in_rows}
use Rattle.xl_paint.specs.Filtered.{AreFiltered, colours_of, filters}
use Rattle.xl_checks.specs.Found.{sheet_of_layer}
use Rattle.xl_paint.specs.Paint.{Paints, site_of_sheet}
use Rattle.xl_paint.proofs.MixedRows.{old_byte, old_length}
use Rattle.xl_paint.proofs.PaintMade.{pixels_painted}
use Rattle.xl_paint.proofs.Weights.{after_out, after_behind}

-- the pixels before one are done, and all else is as it was
pub record AreThrough (table : List ℕ) (k n colours : ℕ) (old new : List ℕ) : Type 0 where
  pub size : length new ≡ length old
  pub done : (j c : ℕ) → j < k → c < n
      → slice_index new (j * n + c) ≡ cond (nat_lt c colours) (slice_index table (slice_index old (j * n + c)))
      (slice_index old (j * n + c))
  pub left : (m : ℕ) → k * n ≤ m → slice_index new m ≡ slice_index old m

pub none_through : (table : List ℕ) (n colours : ℕ) (old : List ℕ) → AreThrough table 0 n colours old old
none_through table n colours old = record { size = refl; done = λ j c hj hc. omega (arith, hj); left = λ m h. refl }

after_at : (at n old new c : ℕ) → byte_after at n old new (at + c) ≡ cond (nat_lt c n) new old
after_at at n old new c = grind (arith, nat_tests)

-- one pixel more
pub pixel_through : (table : List ℕ) (k n colours : ℕ) (old now next : List ℕ) → colours ≤ n → AreThrough table k n colours old now
    → length next ≡ length now
    → ((m : ℕ) → slice_index next m ≡ byte_after (k * n) colours (slice_index now m) (slice_index table (slice_index now m)) m)
    → AreThrough table (k + 1) n colours old next
pixel_through table k n colours old now next few so_far same put = record {
  size = same ∙ so_far.size;
  done = λ j c hj hc.
      let at = j * n + c in
      put at
      ∙ elim (cases_lt j k) [
        | inl before ↦ after_out (k * n) colours _ _ at (omega (arith, mul-add-lt j n c k before hc)) ∙ so_far.done j c before hc
        | inr last ↦
            let here : j ≡ k = omega (arith, hj, last) in
            let start : j * n ≡ k * n = ap (λ m. m * n) here in
            let place : at ≡ k * n + c = omega (arith, start) in
            let still : slice_index now at ≡ slice_index old at = so_far.left at (omega (arith, start)) in
            (λ i. byte_after (k * n) colours (still i) (slice_index table (still i)) (place i))
            ∙ after_at (k * n) colours (slice_index old at) (slice_index table (slice_index old at)) c
      ];
  left = λ m h.
      let behind : k * n + n ≤ m = omega (arith, h) in
      put m ∙ (after_behind (k * n) colours _ _ m (omega (arith, behind, few)) ∙ so_far.left m (omega (arith, behind)));
}

-- the bytes of a rectangle of a plane, of which each pixel went through the table
pub rows_through : (table : List ℕ) (colours : ℕ) (rect : Rect) (p : Plane) (old new : List ℕ) → old ≡ bytes_in p rect
    → length new ≡ length old
    → ((k c : ℕ) → k < rect.w * rect.h → c < p.bpp
    → slice_index new (k * p.bpp + c)
    ≡ cond (nat_lt c colours) (slice_index table (slice_index old (k * p.bpp + c))) (slice_index old (k * p.bpp + c)))
    → AreFiltered table colours rect p new
rows_through table colours rect p old new is same each = record {
  size = same ∙ (old_length p rect old is ∙ omega arith);
  each = λ column row c hx hy hc.
      let n = p.bpp in
      let k = row * rect.w + column in
      let place : row * (rect.w * n) + (column * n + c) ≡ k * n + c = omega arith in
      let few : k < rect.w * rect.h = omega (arith, mul-add-lt row rect.w column rect.h hy hx) in
      let was : slice_index old (k * n + c) ≡ byte_at p (part_above_0 rect.x + column) (part_above_0 rect.y + row) c =
      ap (slice_index old) (sym place) ∙ old_byte p rect old is column row c hx hy hc in
      ap (slice_index new) place ∙ (each k c few hc ∙ ap (λ b. cond (nat_lt c colours) (slice_index table b) b) was);
}

-- bytes that were lent whole come back whole
pub whole_taken : (len : ℕ) (new old : List ℕ) → len ≡ length old → length new ≡ length old
    → take len (new ++ drop (length new) old) ≡ new
whole_taken len new old full same =
    ap (λ rest. take len (new ++ rest)) (drop_all (length new) old (omega (arith, same)))
    ∙ (ap (take len) (append-nil new) ∙ take_all len new (omega (arith, full, same)))

-- the colour bytes are those before the last, where that is alpha
through_is : (alpha : Bool) (n c new old : ℕ) → c < n
    → cond (nat_lt c (cond alpha (n - 1) n)) new old ≡ cond (alpha && c == n - 1) old new
through_is true n c new old h = grind (arith, nat_tests)
through_is false n c new old h = grind (arith, nat_tests)

-- a filter leaves alpha as it is, whether it is locked or not
alpha_anyway : (lock alpha last : Bool) (old new : ℕ) → cond (alpha && last) old new
    ≡ cond ((lock && alpha) && last) old (cond (alpha && last) old new)
alpha_anyway true true true old new = refl
alpha_anyway true true false old new = refl
alpha_anyway true false last old new = refl
alpha_anyway false alpha last old new = refl

-- what went through the table, and through the selection, is the layer after the filter
filtered_at : (d : Document) (l : Layer) (rect : Rect) (table new bytes : List ℕ) → IsWithin l.plane.width l.plane.height rect
    → AreFiltered table (colours_of (sheet_of_layer l)) rect l.plane new
    → AreRows rect.w rect.h l.plane.bpp
    (byte_in d (site_of_sheet d (sheet_of_layer l)) l.plane rect (in_rows (rect.w * l.plane.bpp) l.plane.bpp new)) bytes
    → Paints Pixels rect bytes (filters d rect table) l
filtered_at d l rect table new bytes within through rows =
    let n = l.plane.bpp in
    pixels_painted d (sheet_of_layer l) rect (keeps_alpha l) (in_rows (rect.w * n) n new) (filtered table l) bytes
    (filters d rect table) within
    (λ column row c hx hy hc.
    let x = part_above_0 rect.x + column in
    let y = part_above_0 rect.y + row in
    let old = byte_at l.plane x y c in
    through.each column row c hx hy hc
    ∙ (through_is (has_alpha l.kind) n c (slice_index table old) old hc
    ∙ alpha_anyway l.lock_alpha (has_alpha l.kind) (c == n - 1) old (slice_index table old))) rows l refl refl refl

pub filter_painted : (d : Document) (s : Sheet) (rect : Rect) (table new bytes : List ℕ)
    → IsWithin s.plane.width s.plane.height rect
    → AreFiltered table (colours_of s) rect s.plane new
    → AreRows rect.w rect.h s.plane.bpp
    (byte_in d (site_of_sheet d s) s.plane rect (in_rows (rect.w * s.plane.bpp) s.plane.bpp new)) bytes
    → (l : Layer) → sheet_of_layer l ≡ s → Paints Pixels rect bytes (filters d rect table) l
filter_painted d s rect table new bytes within through rows l is =
    let IsIn : Sheet → Type 0 = λ q. IsWithin q.plane.width q.plane.height rect in
    let IsThrough : Sheet → Type 0 = λ q. AreFiltered table (colours_of q) rect q.plane new in
    let HasRows : Sheet → Type 0 = λ q. AreRows rect.w rect.h q.plane.bpp
    (byte_in d (site_of_sheet d q) q.plane rect (in_rows (rect.w * q.plane.bpp) q.plane.bpp new)) bytes in
    filtered_at d l rect table new bytes (subst IsIn (sym is) within) (subst IsThrough (sym is) through)
    (subst HasRows (sym is) rows)
