-- A plane after an edit of its pixels.
use Rattle.std.proofs.Common.{◌≡◌, ℕ, ◌+◌, ◌-◌, ◌*◌, ◌<◌, ◌≤◌, Bool, true, false, ◌&&◌, cond, nat_lt, List}
use Rattle.std.proofs.Common.{slice_index, refl, sym, ◌∙◌, ap, arith, ℤ, pos, negsuc, ◌+ℤ◌, ◌-ℤ◌}
use Rattle.std.specs.Prelude.{nat_le, if◌then◌else◌, ◌≤ℤ◌}
use Rattle.std.proofs.lemmas.Bool.{leb-true, ltb-true, false≢true}
use Rattle.std.proofs.lemmas.Int.{ints}
use Rattle.spec_document.specs.declared.Rect.{Rect}
use Rattle.spec_document.specs.Rect.{has_point, part_above_0}
use Rattle.spec_document.specs.Plane.{Plane, byte_at, plane_of}
use Rattle.spec_document.specs.Document.{Document}
use Rattle.spec_document.proofs.PlaneLemmas.{byte_at-plane_of, length-plane_of}
use Rattle.spec_document.proofs.SamePlane.{plane-ext}
use Rattle.spec_document.specs.Selection.{selected}
use Rattle.spec_edit.specs.Effect.{mixed, replaced, through, listed}
use Rattle.xl_tiles.specs.Area.{bytes_in}
use Rattle.xl_tiles.specs.Written.{IsWithin, from_edge, written}
use Rattle.xl_paint.specs.declared.places.Site.{Site}
use Rattle.xl_paint.specs.Filling.{AreRows, byte_in, in_rows, weight_at}
use Rattle.xl_paint.proofs.MixedRows.{old_byte}
use Rattle.xl_paint.proofs.Weights.{weighed}

-- planes of bytes that agree within the sides are one
pub plane_of-same : (w h n : ℕ) (f g : ℕ → ℕ → ℕ → ℕ) → ((x y c : ℕ) → x < w → y < h → c < n → f x y c ≡ g x y c)
    → plane_of w h n f ≡ plane_of w h n g
plane_of-same w h n f g same =
    plane-ext (plane_of w h n f) (plane_of w h n g) refl refl refl (omega (arith, length-plane_of f w h n))
    (omega (arith, length-plane_of g w h n))
    (λ x y c hx hy hc. byte_at-plane_of f w h n x y c hx hy hc
    ∙ (same x y c hx hy hc ∙ sym (byte_at-plane_of g w h n x y c hx hy hc)))

pub choose : (t : Bool) (a b old : ℕ) → (t ≡ true → a ≡ b) → cond t a old ≡ cond t b old
choose true a b old h = h refl
choose false a b old h = refl

pub edge_is : (x X : ℕ) → X ≤ x → from_edge x (pos X) ≡ x - X
edge_is x X h = let e : pos x -ℤ pos X ≡ pos (x - X) = omega (arith, ints) in ap part_above_0 e

pub all_four : (a b c d : Bool) → ((a && b) && (c && d)) ≡ true → (a ≡ true) × (b ≡ true) × (c ≡ true) × (d ≡ true)
all_four true true true true e = (refl, refl, refl, refl)
all_four true true true false e = absurd (false≢true e)
all_four true true false d e = absurd (false≢true e)
all_four true false c d e = absurd (false≢true e)
all_four false b c d e = absurd (false≢true e)

-- the byte at a point of the rectangle
byte_there : (X Y W H n x y c : ℕ) (byte : ℕ → ℕ → ℕ → ℕ) (bytes : List ℕ) → AreRows W H n byte bytes → X ≤ x → x < X + W → Y ≤ y
    → y < Y + H → c < n
    → slice_index bytes ((from_edge y (pos Y) * W + from_edge x (pos X)) * n + c) ≡ byte (x - X) (y - Y) c
byte_there X Y W H n x y c byte bytes rows left right top bottom hc =
    let place : ((y - Y) * W + (x - X)) * n + c ≡ (y - Y) * (W * n) + ((x - X) * n + c) = omega arith in
    (λ i. slice_index bytes ((edge_is y Y top i * W + edge_is x X left i) * n + c))
    ∙ (ap (slice_index bytes) place ∙ rows.each (x - X) (y - Y) c (omega (arith, left, right)) (omega (arith, top, bottom)) hc)

abbrev rect_at : (x y : ℤ) (w h : ℕ) → Rect
rect_at x y w h = record { x = x; y = y; w = w; h = h }

module _ (d : Document) (site : Site) (p : Plane) (new byte : ℕ → ℕ → ℕ → ℕ) (bytes : List ℕ) (w h : ℕ) where
  -- a byte of the plane afterwards
  abbrev painted_byte : (x y c : ℕ) → ℕ
  painted_byte x y c =
      let s = selected d (site.x +ℤ pos x) (site.y +ℤ pos y) in
      if site.indexed then replaced s (byte x y c) (byte_at p x y c) else mixed s (byte x y c) (byte_at p x y c)

  point_painted : (X Y n : ℕ) → AreRows w h n (byte_in d site p (rect_at (pos X) (pos Y) w h) new) bytes
      → ((column row c : ℕ) → column < w → row < h → c < n → new column row c ≡ byte (X + column) (Y + row) c)
      → (x y c : ℕ) → X ≤ x → x < X + w → Y ≤ y → y < Y + h → c < n
      → slice_index bytes ((from_edge y (pos Y) * w + from_edge x (pos X)) * n + c) ≡ painted_byte x y c
  point_painted X Y n rows same x y c left right top bottom hc =
      let column : X + (x - X) ≡ x = omega (arith, left) in
      let row : Y + (y - Y) ≡ y = omega (arith, top) in
      byte_there X Y w h n x y c (byte_in d site p (rect_at (pos X) (pos Y) w h) new) bytes rows left right top bottom hc
      ∙ (ap (λ v. mixed (weight_at d site (X + (x - X)) (Y + (y - Y))) v (byte_at p (X + (x - X)) (Y + (y - Y)) c))
      (same (x - X) (y - Y) c (omega (arith, left, right)) (omega (arith, top, bottom)) hc)
      ∙ ((λ i. mixed (weight_at d site (column i) (row i)) (byte (column i) (row i) c) (byte_at p (column i) (row i) c))
      ∙ sym (weighed site.indexed (selected d (site.x +ℤ pos x) (site.y +ℤ pos y)) (byte x y c) (byte_at p x y c))))

  painted_at : (X Y : ℤ) → IsWithin p.width p.height (rect_at X Y w h)
      → AreRows w h p.bpp (byte_in d site p (rect_at X Y w h) new) bytes
      → ((column row c : ℕ) → column < w → row < h → c < p.bpp
      → new column row c ≡ byte (part_above_0 X + column) (part_above_0 Y + row) c)
      → written p (rect_at X Y w h) bytes ≡ through d site.indexed site.x site.y (rect_at X Y w h) byte p
  painted_at (pos X) (pos Y) within rows same =
      plane_of-same p.width p.height p.bpp _ _
      (λ x y c hx hy hc.
      choose (has_point (rect_at (pos X) (pos Y) w h) (pos x) (pos y)) _ (painted_byte x y c) (byte_at p x y c)
      (λ on.
      let inside = all_four (nat_le X x) (nat_lt x (X + w)) (nat_le Y y) (nat_lt y (Y + h)) on in
      point_painted X Y p.bpp rows same x y c (leb-true X x inside.0) (ltb-true x (X + w) inside.1) (leb-true Y y inside.2)
      (ltb-true y (Y + h) inside.3) hc))
  painted_at (pos X) (negsuc Y) within rows same = absurd (omega (arith, ints, within.top))
  painted_at (negsuc X) Y within rows same = absurd (omega (arith, ints, within.left))

-- the rows that are written are the plane after the edit, of which these are the new bytes
pub painted : (d : Document) (site : Site) (p : Plane) (rect : Rect) (new byte : ℕ → ℕ → ℕ → ℕ) (bytes : List ℕ)
    → IsWithin p.width p.height rect
    → ((column row c : ℕ) → column < rect.w → row < rect.h → c < p.bpp
    → new column row c ≡ byte (part_above_0 rect.x + column) (part_above_0 rect.y + row) c)
    → AreRows rect.w rect.h p.bpp (byte_in d site p rect new) bytes
    → written p rect bytes ≡ through d site.indexed site.x site.y rect byte p
painted d site p rect new byte bytes within same rows =
    painted_at d site p new byte bytes rect.w rect.h rect.x rect.y within rows same

-- a column counted from the left edge, and a row from the top
from_edge_is : (edge : ℤ) (column : ℕ) → pos 0 ≤ℤ edge → from_edge (part_above_0 edge + column) edge ≡ column
from_edge_is (pos e) column h = edge_is (e + column) e (omega arith) ∙ omega arith
from_edge_is (negsuc e) column h = absurd (omega (arith, ints, h))

-- bytes that are listed row by row
pub listed_is : (w h n : ℕ) (rect : Rect) (bytes : List ℕ) → IsWithin w h rect → (column row c : ℕ)
    → in_rows (rect.w * n) n bytes column row c ≡ listed rect n bytes (part_above_0 rect.x + column) (part_above_0 rect.y + row) c
listed_is w h n rect bytes within column row c =
    let place : row * (rect.w * n) + (column * n + c) ≡ (row * rect.w + column) * n + c = omega arith in
    ap (slice_index bytes) place
    ∙ (λ i. slice_index bytes ((sym (from_edge_is rect.y row within.top) i * rect.w
    + sym (from_edge_is rect.x column within.left) i) * n + c))

-- bytes that stand at u and v of another plane
pub copied_is : (w h : ℕ) (rect : Rect) (source : Plane) (u v : ℕ) (bytes : List ℕ) → IsWithin w h rect
    → bytes ≡ bytes_in source (rect_at (pos u) (pos v) rect.w rect.h)
    → (column row c : ℕ) → column < rect.w → row < rect.h → c < source.bpp
    → in_rows (rect.w * source.bpp) source.bpp bytes column row c
    ≡ byte_at source (u + from_edge (part_above_0 rect.x + column) rect.x) (v + from_edge (part_above_0 rect.y + row) rect.y) c
copied_is w h rect source u v bytes within is column row c hx hy hc =
    old_byte source (rect_at (pos u) (pos v) rect.w rect.h) bytes is column row c hx hy hc
    ∙ (λ i. byte_at source (u + sym (from_edge_is rect.x column within.left) i) (v + sym (from_edge_is rect.y row within.top) i) c)
