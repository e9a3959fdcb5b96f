-- The pixel that a layer gives at a point of the canvas.
use Rattle.std.specs.Prelude.{ℕ, ◌-◌, Bool, true, false, ◌==◌, if◌then◌else◌, pos, ◌-ℤ◌, List, slice_get, slice_index}
use Rattle.std.specs.Prelude.{Option, Some, None}
use Rattle.spec_document.specs.declared.Pixel.{Pixel}
use Rattle.spec_document.specs.Blend.{mul}
use Rattle.spec_document.specs.Over.{clear}
use Rattle.spec_document.specs.Rect.{part_above_0, has_point}
use Rattle.spec_document.specs.Plane.{byte_at}
use Rattle.spec_document.specs.Document.{Layer, Channel, base_of_kind, has_alpha, layer_rect}

-- the same pixel with a part of its alpha
abbrev pub faded : (part : ℕ) → Pixel → Pixel
faded part p = record { r = p.r; g = p.g; b = p.b; a = mul p.a part }

-- a colour of the map; one past its end is black
abbrev pub mapped : Option (List ℕ) → (alpha : ℕ) → Pixel
mapped None alpha = record { r = 0; g = 0; b = 0; a = alpha }
mapped (Some colour) alpha = record { r = slice_index colour 0; g = slice_index colour 1; b = slice_index colour 2; a = alpha }

-- the alpha of a point of a layer; a layer without alpha is opaque
abbrev pub own_alpha : Layer → (x y : ℕ) → ℕ
own_alpha l x y = if has_alpha l.kind then byte_at l.plane x y (l.plane.bpp - 1) else 255

-- the pixel of a layer in its own coordinates
abbrev pub own_pixel : (colours : List (List ℕ)) → Layer → (x y : ℕ) → Pixel
own_pixel colours l x y =
    let alpha = own_alpha l x y in
    let first = byte_at l.plane x y 0 in
    if base_of_kind l.kind == 0 then record { r = first; g = byte_at l.plane x y 1; b = byte_at l.plane x y 2; a = alpha } else
    if base_of_kind l.kind == 1 then record { r = first; g = first; b = first; a = alpha } else
    mapped (slice_get colours first) alpha

-- what the mask leaves, where there is one and it is applied
abbrev pub mask_part : Option Channel → (applied : Bool) → (x y : ℕ) → Pixel → Pixel
mask_part None applied x y p = p
mask_part (Some mask) false x y p = p
mask_part (Some mask) true x y p = faded (byte_at mask.plane x y 0) p

-- the pixel of a layer in its own coordinates, with its opacity and its mask
abbrev pub layer_pixel : (colours : List (List ℕ)) → Layer → (x y : ℕ) → Pixel
layer_pixel colours l x y = mask_part l.mask l.apply_mask x y (faded l.opacity (own_pixel colours l x y))

-- the pixel of a layer at a point of the canvas, and nothing outside its rectangle
abbrev pub layer_source : (colours : List (List ℕ)) → Layer → (x y : ℕ) → Pixel
layer_source colours l x y =
    if has_point (layer_rect l) (pos x) (pos y)
    then layer_pixel colours l (part_above_0 (pos x -ℤ l.x)) (part_above_0 (pos y -ℤ l.y))
    else clear
