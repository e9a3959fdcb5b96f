-- The pixels of a picture in a document of a base, out of RGBA bytes.
use Rattle.std.proofs.Common.{◌≡◌, ℕ, ◌*◌, List, [], ◌∷◌, ◌++◌, length, refl, ◌∙◌, ap, arith}
use Rattle.std.specs.Prelude.{flat_map}
use Rattle.spec_document.specs.declared.Pixel.{Pixel}
use Rattle.spec_document.specs.Rect.{count_from}
use Rattle.spec_document.specs.declared.Base.{Base}
use Rattle.spec_document.specs.declared.Base.TheVariants.{Rgb, Grey, Indexed}
use Rattle.spec_document.specs.Document.{Document, bytes_of_kind, picture_kind}
use Rattle.spec_document.proofs.PlaneLemmas.{length-pieces}
use Rattle.spec_document.specs.Picture.{picture, pixel_bytes, picture_bytes}
use Rattle.spec_document.specs.Greys.{red_and_alpha, pixels_of_base}

row_picked : (P : ℕ → Pixel) (us rest : List ℕ)
    → red_and_alpha (flat_map (λ u. pixel_bytes (P u)) us ++ rest) ≡ flat_map (λ u. (P u).r ∷ (P u).a ∷ []) us ++ red_and_alpha rest
row_picked P [] rest = refl
row_picked P (u ∷ us) rest = ap (λ xs. (P u).r ∷ (P u).a ∷ xs) (row_picked P us rest)

-- of the bytes of pixels, row by row, these are the red and the alpha of each
pub reds_and_alphas : (P : ℕ → ℕ → Pixel) (us vs : List ℕ)
    → red_and_alpha (flat_map (λ v. flat_map (λ u. pixel_bytes (P u v)) us) vs)
    ≡ flat_map (λ v. flat_map (λ u. (P u v).r ∷ (P u v).a ∷ []) us) vs
reds_and_alphas P us [] = refl
reds_and_alphas P us (v ∷ vs) =
    row_picked (λ u. P u v) us (flat_map (λ v. flat_map (λ u. pixel_bytes (P u v)) us) vs)
    ∙ ap (λ xs. flat_map (λ u. (P u v).r ∷ (P u v).a ∷ []) us ++ xs) (reds_and_alphas P us vs)

-- the bytes of one pixel
abbrev pub pixel_of_base : Base → Pixel → List ℕ
pixel_of_base Rgb p = pixel_bytes p
pixel_of_base Grey p = p.r ∷ p.a ∷ []
pixel_of_base Indexed p = pixel_bytes p

pub pixel_length : (base : Base) (p : Pixel) → length (pixel_of_base base p) ≡ bytes_of_kind (picture_kind base)
pixel_length Rgb p = refl
pixel_length Grey p = refl
pixel_length Indexed p = refl

-- the bytes of pixels, row by row, are those of each pixel
pub pixel_by_pixel : (base : Base) (P : ℕ → ℕ → Pixel) (us vs : List ℕ)
    → pixels_of_base base (flat_map (λ v. flat_map (λ u. pixel_bytes (P u v)) us) vs)
    ≡ flat_map (λ v. flat_map (λ u. pixel_of_base base (P u v)) us) vs
pixel_by_pixel Rgb P us vs = refl
pixel_by_pixel Grey P us vs = reds_and_alphas P us vs
pixel_by_pixel Indexed P us vs = refl

turned : (w h n : ℕ) → h * (w * n) ≡ w * h * n
turned w h n = omega arith

-- a picture has as many bytes as its sides say
pub pixels_length : (base : Base) (d : Document) (stack x y w h : ℕ)
    → length (pixels_of_base base (picture_bytes d stack x y w h)) ≡ w * h * bytes_of_kind (picture_kind base)
pixels_length base d stack x y w h =
    let n = bytes_of_kind (picture_kind base) in
    ap length (pixel_by_pixel base (picture d stack) (count_from x w) (count_from y h))
    ∙ (length-pieces (λ v. flat_map (λ u. pixel_of_base base (picture d stack u v)) (count_from x w)) (w * n)
    (λ v. length-pieces (λ u. pixel_of_base base (picture d stack u v)) n (λ u. pixel_length base (picture d stack u v)) x w) y h
    ∙ turned w h n)
