-- What a coder of planes appends.
use Rattle.std.specs.Prelude.{◌≡◌, ℕ, ◌+◌, ◌≤◌, List, ◌++◌, length}
use Rattle.spec_rle.specs.declared.TheConstants.{MAX_EXCESS}
use Rattle.spec_rle.specs.Codes.{Spells}

-- a spelling that fits the plane, at most MAX_EXCESS bytes longer than it
pub record Appends (fits : List ℕ → List ℕ → Type 0) (plane old new : List ℕ) : Type 0 where
  pub spelled : List ℕ
  pub spells : Spells spelled plane
  pub short : length spelled ≤ length plane + MAX_EXCESS
  pub fitting : fits plane spelled
  pub appended : new ≡ old ++ spelled
