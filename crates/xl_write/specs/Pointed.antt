-- A plane behind the pointers to it and to a mask.
use Rattle.std.specs.Prelude.{◌≡◌, ℕ, ◌+◌, Bool, if◌then◌else◌, List, ◌++◌, length}
use Rattle.spec_document.specs.Plane.{Plane}
use Rattle.spec_fields.specs.Put.{word}
use Rattle.spec_hierarchy.specs.Layout.{IsWrittenPlane}

-- the second pointer is where the plane ends, if there is a mask, and 0 otherwise
pub record PlanePointed (fits : List ℕ → List ℕ
    → Type 0) (compression : ℕ) (p : Plane) (masked : Bool) (old new : List ℕ) : Type 0 where
  pub plane : List ℕ
  pub plane_is : IsWrittenPlane fits compression (length old + 8) p plane
  pub appended : new ≡ old ++ (word (length old + 8)
      ++ (word (if masked then length old + 8 + length plane else 0) ++ plane))
