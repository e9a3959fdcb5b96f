-- A document with other bytes in a rectangle of a layer or of its mask is within its limits.
use Rattle.std.proofs.Common.{◌≡◌, ℕ, ◌+◌, ◌*◌, ◌^◌, ◌≤◌, List, slice_index, refl, sym, ◌∙◌, ap, subst, arith}
use Rattle.std.specs.Prelude.{Option, Some, None, option_map}
use Rattle.spec_document.specs.declared.Rect.{Rect}
use Rattle.spec_document.specs.Changes.{with_leaf}
use Rattle.spec_document.specs.declared.Base.{Base}
use Rattle.spec_document.specs.declared.Owner.TheVariants as owners
use Rattle.spec_document.specs.Plane.{Plane}
use Rattle.spec_document.specs.Document.{Document, Layer, Channel, Nodes, mask_area, channel_kept}
use Rattle.spec_document.specs.Limits.{AreBytes, IsPlaneOf, IsChannelIfAny, IsDocument}
use Rattle.spec_document.proofs.BytesMade.{index_byte}
use Rattle.spec_edit.specs.Effect.{with_plane}
use Rattle.spec_edit.proofs.Painted.{with_rect_plane, channel_painted}
use Rattle.spec_edit.proofs.FieldsLimited.{KeepsLayer, layer_area, leaf_changed}
use Rattle.xl_tiles.specs.Written.{from_edge, written}
use Rattle.xl_paint.specs.declared.places.LayerPart.{LayerPart}
use Rattle.xl_paint.specs.declared.places.LayerPart.TheVariants.{Pixels, Mask}
use Rattle.xl_paint.specs.Paint.{with_piece}

plane_written : (rect : Rect) (bytes : List ℕ) (w h n : ℕ) (p : Plane) → AreBytes bytes → IsPlaneOf w h n p
    → IsPlaneOf w h n (written p rect bytes)
plane_written rect bytes w h n p are k =
    with_rect_plane rect (λ x y c. slice_index bytes ((from_edge y rect.y * rect.w + from_edge x rect.x) * p.bpp + c)) w h n p k
    (λ x y c. index_byte bytes ((from_edge y rect.y * rect.w + from_edge x rect.x) * p.bpp + c) are)

abbrev mask_with : Rect → List ℕ → Option Channel → Option Channel
mask_with rect bytes o = option_map (with_plane (λ p. written p rect bytes)) o

mask_written : (rect : Rect) (bytes : List ℕ) (w h : ℕ) (o : Option Channel) → AreBytes bytes → IsChannelIfAny owners.Mask w h o
    → IsChannelIfAny owners.Mask w h (mask_with rect bytes o)
mask_written rect bytes w h None are k = tt
mask_written rect bytes w h (Some c) are k =
    channel_painted owners.Mask w h (λ p. written p rect bytes) c (λ p q. plane_written rect bytes w h 1 p are q) k

mask_kept : (rect : Rect) (bytes : List ℕ) (o : Option Channel) → channel_kept (mask_with rect bytes o) ≡ channel_kept o
mask_kept rect bytes None = refl
mask_kept rect bytes (Some c) = refl

mask_pixels : (rect : Rect) (bytes : List ℕ) (o : Option Channel) → mask_area (mask_with rect bytes o) ≡ mask_area o
mask_pixels rect bytes None = refl
mask_pixels rect bytes (Some c) = refl

keeps_piece : (base : Base) (part : LayerPart) (rect : Rect) (bytes : List ℕ) → AreBytes bytes
    → KeepsLayer base (with_piece part rect bytes)
keeps_piece base Pixels rect bytes are = record {
  limits = λ l h. record {
    name = h.name;
    opacity = h.opacity;
    kept = h.kept;
    kind = h.kind;
    base_is = h.base_is;
    x = h.x;
    y = h.y;
    width = h.width;
    height = h.height;
    plane = plane_written rect bytes l.plane.width l.plane.height _ l.plane are h.plane;
    mask = h.mask;
  };
  kept = λ l. omega arith;
}
keeps_piece base Mask rect bytes are = record {
  limits = λ l h. record {
    name = h.name;
    opacity = h.opacity;
    kept = h.kept;
    kind = h.kind;
    base_is = h.base_is;
    x = h.x;
    y = h.y;
    width = h.width;
    height = h.height;
    plane = h.plane;
    mask = mask_written rect bytes l.plane.width l.plane.height l.mask are h.mask;
  };
  kept = λ l. omega (arith, mask_kept rect bytes l.mask);
}

same_area : (part : LayerPart) (rect : Rect) (bytes : List ℕ) (l : Layer) → layer_area (with_piece part rect bytes l) ≤ layer_area l
same_area Pixels rect bytes l = omega arith
same_area Mask rect bytes l = omega (arith, mask_pixels rect bytes l.mask)

pub put_within : (d : Document) (id : ℕ) (part : LayerPart) (rect : Rect) (bytes : List ℕ) → IsDocument d → AreBytes bytes
    → IsDocument (record d { nodes = with_leaf id (with_piece part rect bytes) d.nodes })
put_within d id part rect bytes is are =
    (leaf_changed d (2 ^ 32) id (with_piece part rect bytes) (record { document = is; positive = omega arith; below = is.ids.word })
    (keeps_piece d.base part rect bytes are) (same_area part rect bytes)).document

-- The document is seen as its fields, and as what they stand for.
module _ (before d : Document) (id : ℕ) (part : LayerPart) (rect : Rect) (bytes : List ℕ) (nodes : Nodes) where
  pub put_is : before ≡ d → nodes ≡ with_leaf id (with_piece part rect bytes) before.nodes
      → record before { nodes = nodes } ≡ record d { nodes = with_leaf id (with_piece part rect bytes) d.nodes }
  put_is same is =
      ap (λ x. record before { nodes = x }) is
      ∙ ap (λ (y : Document). record y { nodes = with_leaf id (with_piece part rect bytes) y.nodes }) same

  pub put_limits : IsDocument before → AreBytes bytes → nodes ≡ with_leaf id (with_piece part rect bytes) before.nodes
      → IsDocument (record before { nodes = nodes })
  put_limits is are nodes_are =
      let P : Nodes → Type 0 = λ x. IsDocument (record before { nodes = x }) in
      subst P (sym nodes_are) (put_within before id part rect bytes is are)
