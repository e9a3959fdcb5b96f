-- What is painted is what the edit makes.
use Rattle.std.proofs.Common.{◌≡◌, ℕ, ◌+◌, ◌-◌, ◌*◌, ◌<◌, Bool, true, false, ◌&&◌, ◌==◌, cond, nat_eq, List, [], ◌∷◌, length, slice_index}
use Rattle.std.proofs.Common.{refl, sym, ◌∙◌, ap, subst, arith}
use Rattle.std.specs.Prelude.{Option, Some, None, option_map, is_none, Ok}
use Rattle.std.specs.List.{IsDistinct}
use Rattle.spec_document.specs.declared.Rect.{Rect}
use Rattle.spec_document.specs.Rect.{part_above_0}
use Rattle.spec_document.specs.Forest.{Found, nothing, a_leaf, a_group, find, ids}
use Rattle.spec_document.specs.Changes.{with_leaf}
use Rattle.spec_document.specs.Document.{Document, Layer, Group, Channel, is_indexed}
use Rattle.spec_edit.specs.Edit.{Edit}
use Rattle.spec_edit.specs.Refusal.{node, refusal}
use Rattle.spec_edit.specs.Effect.{keeps_alpha, but_alpha, change_leaf, effect, makes_node, paint, through, with_plane, listed, plane_found, from_edge}
use Rattle.spec_edit.specs.Apply as edits
use Rattle.spec_document.specs.Plane.{Plane, byte_at}
use Rattle.xl_doc.specs.Sheet.{Sheet}
use Rattle.xl_tiles.specs.Area.{bytes_in}
use Rattle.xl_tiles.specs.Written.{IsWithin, written}
use Rattle.xl_paint.specs.declared.places.Site.{Site}
use Rattle.xl_paint.specs.declared.places.LayerPart.{LayerPart}
use Rattle.xl_paint.specs.declared.places.LayerPart.TheVariants.{Pixels, Mask}
use Rattle.xl_paint.specs.Applied.{at, MakesBy}
use Rattle.xl_paint.specs.Filling.{AreRows, but_alpha_in, byte_in, in_rows}
use Rattle.xl_checks.specs.Found.{IsLayer, sheet_of_layer, sheet_found, alpha_stays}
use Rattle.xl_paint.specs.Paint.{IsPieceOf, IsPiece, IsMaskPiece, PaintsPlane, PaintsMask, Paints, with_piece}
use Rattle.xl_paint.specs.Paint.{site_of_sheet, site_of_mask, fills, writes, copies, fills_mask}
use Rattle.xl_checks.specs.Rects.{rect_from}
use Rattle.xl_paint.proofs.OneNode.{same_leaf}
use Rattle.xl_checks.proofs.LayerFound.{is_layer-weaker}
use Rattle.xl_paint.proofs.FilledRows.{given_are_rows, whole_rows}
use Rattle.xl_paint.proofs.FilledPlanes.{painted, listed_is, copied_is}

piece_painted : (id : ℕ) (d : Document) (part : LayerPart) (rect : Rect) (bytes : List ℕ) (change : Layer
    → Layer) (found : Found Layer Group) → find id d.nodes ≡ found
    → IsDistinct nat_eq (ids d.nodes) → IsLayer (Paints part rect bytes change) found
    → with_leaf id (with_piece part rect bytes) d.nodes ≡ with_leaf id change d.nodes
piece_painted id d part rect bytes change nothing is distinct h = absurd h
piece_painted id d part rect bytes change (a_leaf l) is distinct h =
    same_leaf id (with_piece part rect bytes) change d.nodes l distinct is h.painted
piece_painted id d part rect bytes change (a_group g c) is distinct h = absurd h

-- the edit is the change of the layer
pub paint_made : (d new : Document) (edit : Edit) (id : ℕ) (part : LayerPart) (rect : Rect) (bytes : List ℕ) (change : Layer → Layer)
    → makes_node edit ≡ false
    → refusal d edit ≡ None → (table : List ℕ) → ((next : ℕ) → effect d next table edit ≡ change_leaf d id change)
    → IsDistinct nat_eq (ids d.nodes)
    → IsLayer (Paints part rect bytes change) (node d id)
    → new ≡ record d { nodes = with_leaf id (with_piece part rect bytes) d.nodes } → MakesBy table d new edit (Ok tt)
paint_made d new edit id part rect bytes change plain allowed table makes distinct h is = λ next.
    let all : effect d next table edit ≡ new =
    makes next ∙ (ap (λ x. record d { nodes = x }) (sym (piece_painted id d part rect bytes change (node d id) refl distinct h))
    ∙ sym is) in
    λ i. edits.unless_refused (allowed i) (at (all i) (cond (plain i) (next + 1) next))

-- what is painted is as many bytes as the rectangle has
pub paint_fits : (part : LayerPart) (rect : Rect) (bytes : List ℕ) (change : Layer → Layer) (found : Found Layer Group)
    → IsLayer (Paints part rect bytes change) found
    → IsLayer (IsPiece part rect bytes) found
paint_fits part rect bytes change found h =
    is_layer-weaker (Paints part rect bytes change) (IsPiece part rect bytes) found (λ l p. p.piece) h

pub rows_size : (w h n : ℕ) (byte : ℕ → ℕ → ℕ → ℕ) (bytes : List ℕ) → AreRows w h n byte bytes → length bytes ≡ w * h * n
rows_size w h n byte bytes rows = rows.size ∙ omega arith

-- what is asked of the layer with these pixels, whose alpha stays or does not, holds of the one that is found
pub of_kept : (Holds : Layer → Type 0) (s : Sheet) (keeps : Bool) (found : Found Layer Group) → sheet_found found ≡ Some s
    → alpha_stays found ≡ keeps
    → ((l : Layer) → sheet_of_layer l ≡ s → keeps_alpha l ≡ keeps → Holds l) → IsLayer Holds found
of_kept Holds s keeps nothing is alpha each = cc
of_kept Holds s keeps (a_leaf l) is alpha each = let same : sheet_of_layer l ≡ s = cc in each l same alpha
of_kept Holds s keeps (a_group g c) is alpha each = cc

-- pixels that went through the selection are those of the painted layer
pub pixels_painted : (d : Document) (s : Sheet) (rect : Rect) (keeps : Bool) (new byte : ℕ → ℕ → ℕ → ℕ) (bytes : List ℕ)
    (change : Layer → Layer)
    → IsWithin s.plane.width s.plane.height rect
    → ((column row c : ℕ) → column < rect.w → row < rect.h → c < s.plane.bpp
    → new column row c ≡ but_alpha keeps s.plane byte (part_above_0 rect.x + column) (part_above_0 rect.y + row) c)
    → AreRows rect.w rect.h s.plane.bpp (byte_in d (site_of_sheet d s) s.plane rect new) bytes
    → (l : Layer) → sheet_of_layer l ≡ s → keeps_alpha l ≡ keeps → paint d rect byte l ≡ change l
    → Paints Pixels rect bytes change l
pixels_painted d s rect keeps new byte bytes change within same rows l is alpha changes =
    let written_is : written s.plane rect bytes
    ≡ through d (is_indexed d.base) s.x s.y rect (but_alpha keeps s.plane byte) s.plane =
    painted d (site_of_sheet d s) s.plane rect new (but_alpha keeps s.plane byte) bytes within same rows in
    let IsIn : Sheet → Type 0 = λ q. IsPieceOf rect bytes q.plane in
    let IsPainted : Sheet → Type 0 = λ q. written q.plane rect bytes
    ≡ through d (is_indexed d.base) q.x q.y rect (but_alpha keeps q.plane byte) q.plane in
    let e : IsPainted (sheet_of_layer l) = subst IsPainted (sym is) written_is in
    record {
      piece = subst IsIn (sym is) (record { within = within; size = rows_size rect.w rect.h s.plane.bpp _ bytes rows });
      painted = ap (λ p. record l { plane = p }) e
          ∙ ((λ i. record l { plane = through d (is_indexed d.base) l.x l.y rect (but_alpha (sym alpha i) l.plane byte) l.plane })
          ∙ changes);
    }

-- what is filled is the layer after the fill
pub fill_painted : (d : Document) (s : Sheet) (rect : Rect) (keeps : Bool) (pixel bytes : List ℕ)
    → IsWithin s.plane.width s.plane.height rect
    → AreRows rect.w rect.h s.plane.bpp
    (byte_in d (site_of_sheet d s) s.plane rect (but_alpha_in keeps s.plane rect (λ column row c. slice_index pixel c))) bytes
    → (l : Layer) → sheet_of_layer l ≡ s → keeps_alpha l ≡ keeps → Paints Pixels rect bytes (fills d rect pixel) l
fill_painted d s rect keeps pixel bytes within rows l is alpha =
    let new : ℕ → ℕ → ℕ → ℕ = λ column row c. slice_index pixel c in
    pixels_painted d s rect keeps (but_alpha_in keeps s.plane rect new) new bytes (fills d rect pixel) within
    (λ column row c hx hy hc. refl) rows l is alpha refl

-- what is written is the layer after the write
pub write_painted : (d : Document) (s : Sheet) (rect : Rect) (keeps : Bool) (given bytes : List ℕ)
    → IsWithin s.plane.width s.plane.height rect
    → AreRows rect.w rect.h s.plane.bpp
    (byte_in d (site_of_sheet d s) s.plane rect
    (but_alpha_in keeps s.plane rect (in_rows (rect.w * s.plane.bpp) s.plane.bpp given))) bytes
    → (l : Layer) → sheet_of_layer l ≡ s → keeps_alpha l ≡ keeps → Paints Pixels rect bytes (writes d rect given) l
write_painted d s rect keeps given bytes within rows l is alpha =
    let n = s.plane.bpp in
    let new : ℕ → ℕ → ℕ → ℕ = in_rows (rect.w * n) n given in
    pixels_painted d s rect keeps (but_alpha_in keeps s.plane rect new) (listed rect n given) bytes (writes d rect given) within
    (λ column row c hx hy hc.
    ap (λ v. cond (keeps && c == n - 1) (byte_at s.plane (part_above_0 rect.x + column) (part_above_0 rect.y + row) c) v)
    (listed_is s.plane.width s.plane.height n rect given within column row c)) rows l is alpha
    (λ i. paint d rect (listed rect (sym is i).plane.bpp given) l)

-- without a selection, and with no alpha that stays, it is what was given
pub given_painted : (d : Document) (s : Sheet) (rect : Rect) (given : List ℕ) → is_none d.selection ≡ true
    → IsWithin s.plane.width s.plane.height rect
    → length given ≡ rect.w * rect.h * s.plane.bpp → (l : Layer) → sheet_of_layer l ≡ s → keeps_alpha l ≡ false
    → Paints Pixels rect given (writes d rect given) l
given_painted d s rect given whole within full =
    let n = s.plane.bpp in
    write_painted d s rect false given given within
    (whole_rows d (site_of_sheet d s) s.plane rect (in_rows (rect.w * n) n given) given whole
    (given_are_rows rect.w rect.h n given full))

plane_of_found : (found : Found Layer Group) (s : Sheet) → sheet_found found ≡ Some s → plane_found found ≡ s.plane
plane_of_found nothing s e = cc
plane_of_found (a_leaf l) s e = let same : sheet_of_layer l ≡ s = cc in λ i. (same i).plane
plane_of_found (a_group g c) s e = cc

-- what is copied is the layer after the copy
pub copy_painted : (d : Document) (s source : Sheet) (rect : Rect) (keeps : Bool) (from u v : ℕ) (new bytes : List ℕ)
    → IsWithin s.plane.width s.plane.height rect
    → sheet_found (node d from) ≡ Some source → source.plane.bpp ≡ s.plane.bpp → new ≡ bytes_in source.plane (rect_from u v rect)
    → AreRows rect.w rect.h s.plane.bpp
    (byte_in d (site_of_sheet d s) s.plane rect
    (but_alpha_in keeps s.plane rect (in_rows (rect.w * s.plane.bpp) s.plane.bpp new))) bytes
    → (l : Layer) → sheet_of_layer l ≡ s → keeps_alpha l ≡ keeps → Paints Pixels rect bytes (copies d rect from u v) l
copy_painted d s source rect keeps from u v new bytes within found bpp is_new rows l is alpha =
    let byte : ℕ → ℕ → ℕ → ℕ = λ x y c. byte_at source.plane (u + from_edge x rect.x) (v + from_edge y rect.y) c in
    let P : ℕ → Type 0 = λ n. (column row c : ℕ) → column < rect.w → row < rect.h → c < n
    → in_rows (rect.w * n) n new column row c ≡ byte (part_above_0 rect.x + column) (part_above_0 rect.y + row) c in
    let same : P s.plane.bpp = subst P bpp (copied_is s.plane.width s.plane.height rect source.plane u v new within is_new) in
    pixels_painted d s rect keeps (but_alpha_in keeps s.plane rect (in_rows (rect.w * s.plane.bpp) s.plane.bpp new)) byte bytes
    (copies d rect from u v) within
    (λ column row c hx hy hc.
    ap (λ b. cond (keeps && c == s.plane.bpp - 1) (byte_at s.plane (part_above_0 rect.x + column) (part_above_0 rect.y + row) c) b)
    (same column row c hx hy hc)) rows l is alpha
    (λ i. paint d rect (λ x y c. byte_at (sym (plane_of_found (node d from) source found) i) (u + from_edge x rect.x)
    (v + from_edge y rect.y) c) l)

fill_value : (value n c : ℕ) → n ≡ 1 → c < n → slice_index (value ∷ []) c ≡ value
fill_value value n c one hc = let first : c ≡ 0 = omega (arith, one, hc) in ap (slice_index (value ∷ [])) first

-- a plane of one byte per pixel after a fill with a value
pub flat_painted : (d : Document) (site : Site) (p : Plane) (rect : Rect) (value : ℕ) (bytes : List ℕ) → p.bpp ≡ 1
    → IsWithin p.width p.height rect
    → AreRows rect.w rect.h p.bpp (byte_in d site p rect (λ column row c. slice_index (value ∷ []) c)) bytes
    → PaintsPlane d site rect value bytes p
flat_painted d site p rect value bytes one within rows = record {
  piece = record { within = within; size = rows_size rect.w rect.h p.bpp _ bytes rows };
  painted = painted d site p rect (λ column row c. slice_index (value ∷ []) c) (λ x y c. value) bytes within
      (λ column row c hx hy hc. fill_value value p.bpp c one hc) rows;
}

mask_fits : (d : Document) (site : Site) (rect : Rect) (value : ℕ) (bytes : List ℕ) (o : Option Channel)
    → PaintsMask d site rect value bytes o → IsMaskPiece rect bytes o
mask_fits d site rect value bytes None h = h
mask_fits d site rect value bytes (Some m) h = h.piece

mask_filled : (d : Document) (site : Site) (rect : Rect) (value : ℕ) (bytes : List ℕ) (o : Option Channel)
    → PaintsMask d site rect value bytes o
    → option_map (with_plane (λ p. written p rect bytes)) o
    ≡ option_map (with_plane (through d site.indexed site.x site.y rect (λ x y c. value))) o
mask_filled d site rect value bytes None h = refl
mask_filled d site rect value bytes (Some m) h = ap (λ p. Some (record m { plane = p })) h.painted

-- a mask's bytes that went through the selection are those of the mask after its fill
pub mask_painted : (d : Document) (s : Sheet) (rect : Rect) (value : ℕ) (bytes : List ℕ)
    → PaintsMask d (site_of_mask s) rect value bytes s.mask
    → (l : Layer) → sheet_of_layer l ≡ s → Paints Mask rect bytes (fills_mask d rect value) l
mask_painted d s rect value bytes h l is =
    let P : Sheet → Type 0 = λ q. PaintsMask d (site_of_mask q) rect value bytes q.mask in
    let k : P (sheet_of_layer l) = subst P (sym is) h in
    record {
      piece = mask_fits d (site_of_mask (sheet_of_layer l)) rect value bytes l.mask k;
      painted = ap (λ m. record l { mask = m }) (mask_filled d (site_of_mask (sheet_of_layer l)) rect value bytes l.mask k);
    }
