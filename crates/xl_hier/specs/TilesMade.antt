-- The tiles of a plane, one behind another, and where each begins.
use Rattle.std.specs.Prelude.{◌≡◌, ℕ, List}
use Rattle.std.specs.List.{concat}
use Rattle.spec_document.specs.Grid.{all_tiles}
use Rattle.spec_document.specs.Plane.{Plane}
use Rattle.spec_hierarchy.specs.Layout.{places_from, AreTiles}

-- all tiles are written, and the first begins at an offset
pub record TilesMade (fits : List ℕ → List ℕ
    → Type 0) (compression : ℕ) (p : Plane) (first : ℕ) (bytes begins : List ℕ) : Type 0 where
  pub tiles : List (List ℕ)
  pub are : AreTiles fits compression p (all_tiles p.width p.height) tiles
  pub bytes_are : bytes ≡ concat tiles
  pub begins_are : begins ≡ places_from first tiles
