-- The pictures of all levels, one after another.
use Rattle.std.specs.Prelude.{◌≡◌, ℕ, ◌+◌, ◌*◌, ◌<◌, ◌≤◌, ◌⊎◌, List, length}
use Rattle.std.specs.List.{AllByRecursion}
use Rattle.spec_document.specs.declared.Pixel.{Pixel}
use Rattle.xl_compose.specs.declared.pieces.Piece.{Piece}
use Rattle.xl_compose.specs.declared.span.Band.{Band}
use Rattle.xl_compose.specs.Laid.{pixel}
use Rattle.xl_compose.specs.Pieces.{IsSized, changed, shown}

-- the points of the band
abbrev pub points : Band → ℕ
points band = band.h * band.w

-- the picture that begins at a place has these pixels now, and all else is as it was
pub record AreSet (band : Band) (at : ℕ) (of : (v k : ℕ) → Pixel) (old new : List Pixel) : Type 0 where
  pub here : (v k : ℕ) → v < band.h → k < band.w → pixel new (at + (v * band.w + k)) ≡ of v k
  pub beside : (i : ℕ) → (i < at) ⊎ (at + points band ≤ i) → pixel new i ≡ pixel old i

-- a piece is laid
abbrev pub IsLaid : (colours : List (List ℕ)) → Band → Piece → (old new : List Pixel) → Type 0
IsLaid colours band piece old new =
    let at = piece.level * points band in
    AreSet band at (λ v k. changed colours band v k piece.what (pixel old (at + (v * band.w + k)))
    (pixel old (at + points band + (v * band.w + k)))) old new

-- the pictures of the levels are those that pieces make
abbrev pub AreShown : (colours : List (List ℕ)) → Band → List Piece → List Pixel → Type 0
AreShown colours band pieces scratch =
    (v k l : ℕ) → v < band.h → k < band.w → (l + 1) * points band ≤ length scratch
    → pixel scratch (l * points band + (v * band.w + k)) ≡ shown colours band v k pieces l

-- the pictures of a piece and of the next level are in the scratch
abbrev pub IsIn : (size : ℕ) → Band → Piece → Type 0
IsIn size band piece = ((piece.level + 2) * points band ≤ size) × IsSized band piece.what

abbrev pub AreIn : (size : ℕ) → Band → List Piece → Type 0
AreIn size band pieces = AllByRecursion (IsIn size band) pieces
