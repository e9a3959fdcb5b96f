-- The extents of nodes, and the rectangles of layers, are far from the ends of their types.
use Rattle.std.proofs.Common.{◌≡◌, ℕ, ◌≤◌, ◌^◌, Bool, true, false, refl, arith}
use Rattle.std.specs.Prelude.{ℤ, pos, negsuc, ◌≤ℤ◌, ◌+ℤ◌, ◌-ℤ◌, ◌&&◌, not, int_le}
use Rattle.std.specs.Int.{int_min, int_max}
use Rattle.std.proofs.lemmas.Int.{ints, int_max_is, int_min_is}
use Rattle.spec_document.specs.Forest.{none, leaf, group, Found, nothing, a_leaf, a_group, find}
use Rattle.spec_document.specs.declared.Rect.{Rect}
use Rattle.spec_document.specs.Rect.{part_above_0, no_rect, sheet, meet, right, bottom, is_empty, lies_on}
use Rattle.spec_document.specs.declared.Base.{Base}
use Rattle.spec_document.specs.Document.{Document, Nodes, Layer, Group, layer_rect}
use Rattle.spec_document.specs.Limits.{IsDocument, AreNodes, IsLayer, IsOffset}
use Rattle.spec_document.proofs.FoundLayers.{IsFound, found_layer}
use Rattle.spec_document.specs.Picture.{hull_of, rect_found, extent}
use Rattle.xl_grid.specs.Small.{IsNear, IsSmall}
use Rattle.xl_doc.specs.Extents.{last_end, IsReach}
use Rattle.xl_doc.proofs.Hulls.{hull_reach}
use Rattle.spec_document.specs.declared.TheConstants.{MAX_SIDE}

no_reach : IsReach no_rect
no_reach = record {
  x = (omega (arith, ints), omega (arith, ints));
  y = (omega (arith, ints), omega (arith, ints));
  right =
      omega (arith, ints);
  bottom = omega (arith, ints);
}

layer_reach : (base : Base) (l : Layer) → IsLayer base l → IsReach (layer_rect l)
layer_reach base l h =
    record { x = h.x; y = h.y; right = omega (arith, ints, h.x.1, h.width.1); bottom = omega (arith, ints, h.y.1, h.height.1) }

nodes_reach : (base : Base) (f : Nodes) → AreNodes base f → IsReach (hull_of f)
nodes_reach base none h = no_reach
nodes_reach base (leaf i l u) h = hull_reach (layer_rect l) (hull_of u) (layer_reach base l h.0) (nodes_reach base u h.1)
nodes_reach base (group i g c u) h = hull_reach (hull_of c) (hull_of u) (nodes_reach base c h.1.0) (nodes_reach base u h.1.1)

found_reach : (base : Base) (found : Found Layer Group) → IsFound base found → IsReach (rect_found found)
found_reach base nothing h = no_reach
found_reach base (a_leaf l) h = layer_reach base l h
found_reach base (a_group g c) h = nodes_reach base c h

max_near : (a : ℤ) → IsOffset a → IsNear (int_max a (pos 0))
max_near a h = (omega (arith, ints, int_max_is a (pos 0), h.0), omega (arith, ints, int_max_is a (pos 0), h.1))

side_small : (a r : ℤ) (w : ℕ) → w ≤ MAX_SIDE → part_above_0 (int_min r (pos 0 +ℤ pos w) -ℤ int_max a (pos 0)) ≤ 2 ^ 20
side_small a r w h = by (int_min r (pos 0 +ℤ pos w) -ℤ int_max a (pos 0)) refl where
  by : (z : ℤ) → int_min r (pos 0 +ℤ pos w) -ℤ int_max a (pos 0) ≡ z → part_above_0 z ≤ 2 ^ 20
  by (pos n) e = omega (arith, ints, int_max_is a (pos 0), int_min_is r (pos 0 +ℤ pos w), h, e)
  by (negsuc n) e = omega arith

cut_small : (w h : ℕ) (r : Rect) → w ≤ MAX_SIDE → h ≤ MAX_SIDE → IsReach r → IsSmall (meet r (sheet w h))
cut_small w h r wide high reach = record {
  x = max_near r.x reach.x;
  y = max_near r.y reach.y;
  w = side_small r.x (right r) w wide;
  h = side_small r.y (bottom r) h high;
}

pub extent_small : (d : Document) (id : ℕ) → IsDocument d → IsSmall (extent d id)
extent_small d id h =
    cut_small d.width d.height (rect_found (find id d.nodes)) h.width.1 h.height.1
    (found_reach d.base (find id d.nodes) (found_layer d.base id d.nodes h.nodes))

-- ---- a rectangle of a layer

both_true : (a b : Bool) → (a && b) ≡ true → (a ≡ true) × (b ≡ true)
both_true true b e = (refl, e)
both_true false b e = cc

le_from : (a b : ℤ) → int_le a b ≡ true → a ≤ℤ b
le_from a b h = grind (arith, ints)

-- it lies between the sides
pub record Lies (w h : ℕ) (r : Rect) : Type 0 where
  pub left : pos 0 ≤ℤ r.x
  pub right : (r.x +ℤ pos r.w) ≤ℤ pos w
  pub top : pos 0 ≤ℤ r.y
  pub bottom : (r.y +ℤ pos r.h) ≤ℤ pos h

pub lies : (w h : ℕ) (r : Rect) → lies_on w h r ≡ true → Lies w h r
lies w h r e =
    let all = both_true (not (is_empty r)) _ e in
    let halves = both_true (int_le (pos 0) r.x && int_le (right r) (pos w)) (int_le (pos 0) r.y
    && int_le (bottom r) (pos h)) all.1 in
    let across = both_true (int_le (pos 0) r.x) (int_le (right r) (pos w)) halves.0 in
    let down = both_true (int_le (pos 0) r.y) (int_le (bottom r) (pos h)) halves.1 in
    record {
      left = le_from (pos 0) r.x across.0;
      right = le_from (right r) (pos w) across.1;
      top = le_from (pos 0) r.y down.0;
      bottom = le_from (bottom r) (pos h) down.1;
    }

-- the sides of a layer
far : (a : ℤ) (w : ℕ) → IsOffset a → (a +ℤ pos w) ≤ℤ last_end → w ≤ 2 ^ 20
far a w h k = omega (arith, ints, h.0, k)

near_place : (b : ℤ) (n w : ℕ) → pos 0 ≤ℤ b → (b +ℤ pos n) ≤ℤ pos w → w ≤ 2 ^ 20 → IsNear b
near_place b n w k l m = (omega (arith, ints, k), omega (arith, ints, l, m))

near_sum : (a b : ℤ) (n w : ℕ) → IsOffset a → (a +ℤ pos w) ≤ℤ last_end → pos 0 ≤ℤ b → (b +ℤ pos n) ≤ℤ pos w → IsNear (a +ℤ b)
near_sum a b n w h i k l = (omega (arith, ints, h.0, k), omega (arith, ints, i, l))

short_side : (b : ℤ) (n w : ℕ) → pos 0 ≤ℤ b → (b +ℤ pos n) ≤ℤ pos w → w ≤ 2 ^ 20 → n ≤ 2 ^ 20
short_side b n w k l m = omega (arith, ints, k, l, m)

-- a rectangle of a layer, in the layer's coordinates and in those of the canvas
pub own_small : (whole r : Rect) → IsReach whole → Lies whole.w whole.h r → IsSmall r
own_small whole r h l = record {
  x = near_place r.x r.w whole.w l.left l.right (far whole.x whole.w h.x h.right);
  y = near_place r.y r.h whole.h l.top l.bottom (far whole.y whole.h h.y h.bottom);
  w = short_side r.x r.w whole.w l.left l.right (far whole.x whole.w h.x h.right);
  h = short_side r.y r.h whole.h l.top l.bottom (far whole.y whole.h h.y h.bottom);
}

pub placed_small : (whole r : Rect) → IsReach whole → Lies whole.w whole.h r
    → IsSmall (record { x = whole.x +ℤ r.x; y = whole.y +ℤ r.y; w = r.w; h = r.h })
placed_small whole r h l = record {
  x = near_sum whole.x r.x r.w whole.w h.x h.right l.left l.right;
  y = near_sum whole.y r.y r.h whole.h h.y h.bottom l.top l.bottom;
  w = short_side r.x r.w whole.w l.left l.right (far whole.x whole.w h.x h.right);
  h = short_side r.y r.h whole.h l.top l.bottom (far whole.y whole.h h.y h.bottom);
}
