-- What a group of edits leaves that a document has taken.
use Rattle.std.specs.Prelude.{◌≡◌, ℕ, List, false, Ok, None}
use Rattle.spec_document.specs.Document.{Document}
use Rattle.spec_edit.specs.Edit.{Edit}
use Rattle.spec_edit.specs.Effect.{makes_node}
use Rattle.spec_edit.specs.Refusal.{refusal}
use Rattle.spec_edit.specs.Apply.{At, is_filter, apply_group}
use Rattle.spec_standing.specs.Change.{change_between}
use Rattle.spec_standing.specs.Group.{damage_along}
use Rattle.xl_damage.specs.Painted.{IsPaint}
use Rattle.xl_undo.specs.Layers.{HasLayer}
use Rattle.xl_standing.specs.declared.made.Made.{Made}

-- the group was made with the tables, leads back to the document before it, and marks what it damages
pub record IsMadeOf (old new : At) (edits : List Edit) (made : Made) : Type 0 where
  pub applied : apply_group old edits made.tables ≡ Ok new
  pub back : made.lead ≡ record { from = new.document; to = old.document }
  pub marks : made.change ≡ change_between old.document new.document (damage_along old edits made.tables)

-- the edit paints the layer with this id, is not refused, and asks for no table and no id
pub record MayPaint (d : Document) (id : ℕ) (edit : Edit) : Type 0 where
  pub paints : IsPaint id edit
  pub allowed : refusal d edit ≡ None
  pub there : HasLayer d id
  pub plain : is_filter edit ≡ false
  pub keeps : makes_node edit ≡ false
