-- The pieces that are added for the nodes of a stack.
use Rattle.std.specs.Prelude.{◌≡◌, ℕ, ◌+◌, ◌*◌, ◌<◌, ◌≤◌, List, length, Option, Some}
use Rattle.spec_document.specs.Forest.{none, leaf, group}
use Rattle.spec_document.specs.Document.{Nodes}
use Rattle.spec_document.specs.Picture.{stack_pixel}
use Rattle.xl_compose.specs.declared.pieces.Piece.{Piece}
use Rattle.xl_compose.specs.declared.span.Band.{Band}
use Rattle.xl_compose.specs.Cost.{visible_in}
use Rattle.xl_compose.specs.Pieces.{AllFit, kept_pixel, shown, weights}

-- the bytes are those of a stack's picture over the band
pub record IsPicture (colours : List (List ℕ)) (band : Band) (nodes : Nodes) (bytes : List ℕ) : Type 0 where
  pub size : length bytes ≡ 4 * (band.h * band.w)
  pub each : (v k : ℕ) → v < band.h → k < band.w
      → kept_pixel bytes (v * band.w + k) ≡ stack_pixel colours (band.x + k) (band.y + v) nodes

-- each picture that is given for a group among the nodes, at any depth, is that group's
abbrev pub AreRight : (clean : ℕ → Option (List ℕ)) → (colours : List (List ℕ)) → Band → Nodes → Type 0
AreRight clean colours band none = Unit {0}
AreRight clean colours band (leaf id l under) = AreRight clean colours band under
AreRight clean colours band (group id g children under) =
    ((bytes : List ℕ) → clean id ≡ Some bytes → IsPicture colours band children bytes)
    × (AreRight clean colours band children × AreRight clean colours band under)

-- the pieces behind the old ones make the picture of the nodes, at a level, and leave those of the levels below it as they are
pub record AreAdded (deep : ℕ) (colours : List (List ℕ)) (band : Band) (level : ℕ) (nodes : Nodes)
    (old new : List Piece) : Type 0 where
  pub fit : AllFit deep band old → AllFit deep band new
  pub cost : weights new ≤ weights old + visible_in nodes
  pub here : (v k : ℕ) → v < band.h → k < band.w
      → shown colours band v k new level ≡ stack_pixel colours (band.x + k) (band.y + v) nodes
  pub below : (v k l : ℕ) → v < band.h → k < band.w → l < level → shown colours band v k new l ≡ shown colours band v k old l
