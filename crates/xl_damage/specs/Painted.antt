-- Edits whose damage is known from the document before them.
use Rattle.std.specs.Prelude.{◌≡◌, ℕ, List}
use Rattle.spec_document.specs.Document.{Document, Layer}
use Rattle.spec_edit.specs.Edit.{Edit}
use Rattle.spec_edit.specs.Effect.{effect, change_leaf}
use Rattle.spec_damage.specs.Damage.{pairs}

-- the edit changes the layer with an id alone, and its pairs do not hang on what it makes
pub record IsPaint (id : ℕ) (edit : Edit) : Type 0 where
  pub changes : (d : Document) (next : ℕ) (table : List ℕ) → (change : Layer → Layer)
      × (effect d next table edit ≡ change_leaf d id change)
  pub before : (old new other : Document) (next n : ℕ) → pairs old new next edit ≡ pairs old other n edit
