-- The damage of an edit by the documents before and after it.
use Rattle.std.specs.Prelude.{◌≡◌, ℕ, List}
use Rattle.spec_document.specs.Document.{Document}
use Rattle.spec_edit.specs.Edit.{Edit}
use Rattle.spec_edit.specs.Effect.{effect}
use Rattle.spec_damage.specs.Damage.{Pair, pairs}
use Rattle.xl_regions.specs.Pairs.{spread}

-- the damage by both documents, where a new node has the id next
abbrev pub damage_between : (old new : Document) → (next : ℕ) → Edit → List Pair
damage_between old new next edit = spread old new (pairs old new next edit)

-- The document after is what the edit makes of the one before, with this id for a new node, whatever table a filter answered.
abbrev pub IsMade : (old new : Document) → (next : ℕ) → Edit → Type 0
IsMade old new next edit = (table : List ℕ) × (new ≡ effect old next table edit)
