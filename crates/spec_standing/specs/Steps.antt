-- Steps back and forth in a history.
use Rattle.std.specs.Prelude.{◌≡◌, ℕ, List, [], ◌∷◌}
use Rattle.spec_document.specs.Document.{Document}
use Rattle.spec_damage.specs.Damage.{Pair}
use Rattle.spec_standing.specs.Change.{Change, change_between}

-- A group of edits that was made, or undone: the document that stood after that, the one before it, and the rectangles in
-- which their pictures may differ.
pub record Step : Type 0 where
  pub from : Document
  pub to : Document
  pub damage : List Pair

-- what a step does to the pictures that are kept
abbrev pub change_of : Step → Change
change_of s = change_between s.from s.to s.damage

-- a step is taken, and leads back from then on
abbrev pub stepped : Step → Step
stepped s = record { from = s.to; to = s.from; damage = s.damage }

-- the change is that from one document to another of the same canvas
pub record IsChange (old new : Document) (c : Change) : Type 0 where
  pub leads : c ≡ change_between old new c.damage
  pub width : new.width ≡ old.width
  pub height : new.height ≡ old.height

-- the steps of some groups: the first leads from the document, and each other from where the one before it leads to
abbrev pub Lead : Document → List (ℕ × Step) → Type 0
Lead d [] = Unit {0}
Lead d (s ∷ ss) = (s.1.from ≡ d) × Lead s.1.to ss
