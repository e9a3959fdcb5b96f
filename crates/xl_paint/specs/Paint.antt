-- The bytes that an edit writes into the pixels or the mask of a layer.
use Rattle.std.specs.Prelude.{◌≡◌, ℕ, ◌+◌, ◌*◌, false, List, length, slice_index, Option, Some, None, option_map}
use Rattle.spec_document.specs.declared.Rect.{Rect}
use Rattle.spec_document.specs.Plane.{Plane, byte_at}
use Rattle.spec_document.specs.Document.{Document, Layer, Channel, is_indexed}
use Rattle.spec_edit.specs.Refusal.{node}
use Rattle.spec_edit.specs.Effect.{paint, through, listed, from_edge, plane_found, with_plane}
use Rattle.xl_doc.specs.Sheet.{Sheet}
use Rattle.xl_tiles.specs.Repeated.{repeated}
use Rattle.xl_tiles.specs.Written.{IsWithin, written}
use Rattle.xl_paint.specs.declared.places.Site.{Site}
use Rattle.xl_paint.specs.declared.places.LayerPart.{LayerPart}
use Rattle.xl_paint.specs.declared.places.LayerPart.TheVariants.{Pixels, Mask}
use Rattle.xl_paint.specs.declared.places.Spread.{Spread}
use Rattle.xl_paint.specs.declared.places.Spread.TheVariants.{Rows, Pixel}
use Rattle.xl_checks.specs.Found.{sheet_of_layer}

-- the bytes of a rectangle, row by row, of what is given of them
abbrev pub spread_over : Rect → Spread → List ℕ → List ℕ
spread_over rect Rows bytes = bytes
spread_over rect Pixel pixel = repeated (rect.w * rect.h) pixel

-- the rectangle lies on the plane, and the bytes are as many as it has there
pub record IsPieceOf (rect : Rect) (bytes : List ℕ) (p : Plane) : Type 0 where
  pub within : IsWithin p.width p.height rect
  pub size : length bytes ≡ rect.w * rect.h * p.bpp

-- so it is with a mask, which is there
abbrev pub IsMaskPiece : Rect → List ℕ → Option Channel → Type 0
IsMaskPiece rect bytes None = ⊥
IsMaskPiece rect bytes (Some mask) = IsPieceOf rect bytes mask.plane

abbrev pub IsSheetPiece : LayerPart → Rect → List ℕ → Sheet → Type 0
IsSheetPiece Pixels rect bytes s = IsPieceOf rect bytes s.plane
IsSheetPiece Mask rect bytes s = IsMaskPiece rect bytes s.mask

abbrev pub IsPiece : LayerPart → Rect → List ℕ → Layer → Type 0
IsPiece part rect bytes l = IsSheetPiece part rect bytes (sheet_of_layer l)

-- the pixels or the mask with the bytes of a rectangle
abbrev pub sheet_with : LayerPart → Rect → List ℕ → Sheet → Sheet
sheet_with Pixels rect bytes s = record s { plane = written s.plane rect bytes }
sheet_with Mask rect bytes s = record s { mask = option_map (with_plane (λ p. written p rect bytes)) s.mask }

-- the layer with these pixels
abbrev pub with_sheet : Sheet → Layer → Layer
with_sheet s l = record l { kind = s.kind; x = s.x; y = s.y; plane = s.plane; mask = s.mask; apply_mask = s.apply_mask }

abbrev pub with_piece : LayerPart → Rect → List ℕ → Layer → Layer
with_piece part rect bytes l = with_sheet (sheet_with part rect bytes (sheet_of_layer l)) l

-- these bytes, in the rectangle of the layer, are what a change makes of it
pub record Paints (part : LayerPart) (rect : Rect) (bytes : List ℕ) (change : Layer → Layer) (l : Layer) : Type 0 where
  pub piece : IsPiece part rect bytes l
  pub painted : with_piece part rect bytes l ≡ change l

-- where the pixels of a layer lie
abbrev pub site_of_sheet : Document → Sheet → Site
site_of_sheet d s = record { x = s.x; y = s.y; indexed = is_indexed d.base }

-- where its mask lies; no byte of it is a place of a colour map
abbrev pub site_of_mask : Sheet → Site
site_of_mask s = record { x = s.x; y = s.y; indexed = false }

-- what a fill, a write, a copy and the fill of a mask make of a layer
abbrev pub fills : Document → Rect → (pixel : List ℕ) → Layer → Layer
fills d rect pixel l = paint d rect (λ x y c. slice_index pixel c) l

abbrev pub writes : Document → Rect → List ℕ → Layer → Layer
writes d rect bytes l = paint d rect (listed rect l.plane.bpp bytes) l

abbrev pub copies : Document → Rect → (from u v : ℕ) → Layer → Layer
copies d rect from u v l =
    paint d rect (λ x y c. byte_at (plane_found (node d from)) (u + from_edge x rect.x) (v + from_edge y rect.y) c) l

abbrev pub fills_mask : Document → Rect → (value : ℕ) → Layer → Layer
fills_mask d rect value l = record l { mask = option_map (with_plane (through d false l.x l.y rect (λ x y c. value))) l.mask }

-- these bytes, in the rectangle of a plane that lies there, are what a fill with a value makes of it
pub record PaintsPlane (d : Document) (site : Site) (rect : Rect) (value : ℕ) (bytes : List ℕ) (p : Plane) : Type 0 where
  pub piece : IsPieceOf rect bytes p
  pub painted : written p rect bytes ≡ through d site.indexed site.x site.y rect (λ x y c. value) p

-- so it is with a mask, which is there
abbrev pub PaintsMask : Document → Site → Rect → (value : ℕ) → List ℕ → Option Channel → Type 0
PaintsMask d site rect value bytes None = ⊥
PaintsMask d site rect value bytes (Some mask) = PaintsPlane d site rect value bytes mask.plane
