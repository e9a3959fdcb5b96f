-- What pieces make of the pictures of all levels at a point.
use Rattle.std.specs.Prelude.{◌≡◌, ℕ, ◌+◌, ◌*◌, ◌<◌, ◌==◌, if◌then◌else◌, List, [], ◌∷◌, length, flat_map}
use Rattle.std.specs.List.{AllByRecursion}
use Rattle.spec_document.specs.declared.Pixel.{Pixel}
use Rattle.spec_document.specs.Over.{over, clear}
use Rattle.spec_document.specs.Rect.{count_from}
use Rattle.spec_document.specs.Source.{faded}
use Rattle.spec_document.specs.Picture.{pixel_bytes}
use Rattle.xl_compose.specs.declared.pieces.Piece.{Piece}
use Rattle.xl_compose.specs.declared.pieces.What.{What}
use Rattle.xl_compose.specs.declared.pieces.What.TheVariants.{Blank, Leaf, Clean, Stack}
use Rattle.xl_compose.specs.declared.span.Band.{Band}
use Rattle.xl_compose.specs.Neat.{IsNeat}
use Rattle.xl_compose.specs.Own.{pixel_at}
use Rattle.xl_compose.specs.Source.{sheet_source}

-- pixel number i of the bytes of a picture
abbrev pub kept_pixel : (bytes : List ℕ) → (i : ℕ) → Pixel
kept_pixel bytes i = pixel_at 1 [] bytes i

-- the pixel of a level at column k of row v of the tile, where it and that of the next level are given
abbrev pub changed : (colours : List (List ℕ)) → Band → (v k : ℕ) → What → (own next : Pixel) → Pixel
changed colours band v k Blank own next = clear
changed colours band v k (Leaf mode opacity layer) own next =
    over mode own (sheet_source colours opacity layer (band.x + k) (band.y + v))
changed colours band v k (Clean picture) own next = kept_pixel picture (v * band.w + k)
changed colours band v k (Stack mode opacity) own next = over mode own (faded opacity next)

-- the pixels of all levels after a piece; it changes its own level alone
abbrev pub after : (colours : List (List ℕ)) → Band → (v k : ℕ) → Piece → (ℕ → Pixel) → (level : ℕ) → Pixel
after colours band v k piece of level =
    if level == piece.level then changed colours band v k piece.what (of piece.level) (of (piece.level + 1)) else of level

-- after one piece upon another
abbrev pub run : (colours : List (List ℕ)) → Band → (v k : ℕ) → List Piece → (ℕ → Pixel) → (level : ℕ) → Pixel
run colours band v k [] of = of
run colours band v k (piece ∷ pieces) of = run colours band v k pieces (after colours band v k piece of)

-- the pixel of a level, from nothing
abbrev pub shown : (colours : List (List ℕ)) → Band → (v k : ℕ) → List Piece → (level : ℕ) → Pixel
shown colours band v k pieces level = run colours band v k pieces (λ l. clear) level

-- the picture of the tile: that of level 0
abbrev pub composed : (colours : List (List ℕ)) → Band → List Piece → List ℕ
composed colours band pieces =
    flat_map (λ v. flat_map (λ k. pixel_bytes (shown colours band v k pieces 0)) (count_from 0 band.w)) (count_from 0 band.h)

-- ---- what they take

-- one where pixels are laid over pixels
abbrev pub weight : What → ℕ
weight Blank = 0
weight (Leaf mode opacity layer) = 1
weight (Clean picture) = 0
weight (Stack mode opacity) = 1

abbrev pub weights : List Piece → ℕ
weights [] = 0
weights (piece ∷ pieces) = weight piece.what + weights pieces

-- the picture has a pixel for each point of the band, and one without alpha is clear
pub record IsKept (band : Band) (picture : List ℕ) : Type 0 where
  pub size : length picture ≡ 4 * (band.h * band.w)
  pub neat : (v k : ℕ) → v < band.h → k < band.w → IsNeat (kept_pixel picture (v * band.w + k))

abbrev pub IsSized : Band → What → Type 0
IsSized band Blank = Unit {0}
IsSized band (Leaf mode opacity layer) = Unit {0}
IsSized band (Clean picture) = IsKept band picture
IsSized band (Stack mode opacity) = Unit {0}

-- the piece and the level above it are among so many levels
abbrev pub Fits : (deep : ℕ) → Band → Piece → Type 0
Fits deep band piece = (piece.level + 1 < deep) × IsSized band piece.what

abbrev pub AllFit : (deep : ℕ) → Band → List Piece → Type 0
AllFit deep band pieces = AllByRecursion (Fits deep band) pieces
