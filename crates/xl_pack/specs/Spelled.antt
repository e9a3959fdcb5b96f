-- The smallest file of a document as it is, and what is told of its planes.
use Rattle.std.specs.Prelude.{◌≡◌, ℕ, ◌≤◌, Bool, List, [], length, MatchBool}
use Rattle.spec_document.specs.Document.{Document}
use Rattle.spec_layout.specs.BytePlanes.{planes_of}
use Rattle.spec_layout.specs.Layout.{Written}
use Rattle.spec_shortest.specs.Lines.{ArePlanLines}

-- no file that is laid out for the document is shorter, so many planes are spelled in it, and the lines are those of their plans
pub record IsSpelled (d : Document) (with_plans : Bool) (file lines : List ℕ) (planes : ℕ) : Type 0 where
  pub written : Written file d
  pub least : (other : List ℕ) → Written other d → length file ≤ length other
  pub are_lines : MatchBool with_plans (ArePlanLines lines (planes_of d)) (lines ≡ [])
  pub count : planes ≡ length (planes_of d)
