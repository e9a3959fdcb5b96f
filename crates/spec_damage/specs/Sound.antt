-- What it means that damage is sound: outside of it every stack that is in both documents shows the same.
use Rattle.std.specs.Prelude.{◌≡◌, ℕ, ◌<◌, false, List, is_none, None, Ok}
use Rattle.std.specs.List.{AllByRecursion, list_any}
use Rattle.spec_document.specs.Forest.{ids, stack_at}
use Rattle.spec_document.specs.declared.Rect.{Rect}
use Rattle.spec_document.specs.declared.TileAt.{TileAt}
use Rattle.spec_document.specs.Rect.{do_meet}
use Rattle.spec_document.specs.Grid.{tile_rect}
use Rattle.spec_document.specs.Document.{Document, Nodes}
use Rattle.spec_document.specs.Limits.{IsDocument}
use Rattle.spec_document.specs.Picture.{project}
use Rattle.spec_edit.specs.Edit.{Edit}
use Rattle.spec_edit.specs.Refusal.{refusal}
use Rattle.spec_edit.specs.Effect.{effect}
use Rattle.spec_edit.specs.Apply.{At, apply_group}
use Rattle.spec_edit.specs.Limited.{IsAt}
use Rattle.spec_damage.specs.Damage.{SameOutside, damage_of, group_damage}

-- there is such a stack
abbrev pub HasStack : Nodes → (stack : ℕ) → Type 0
HasStack nodes stack = is_none (stack_at stack nodes) ≡ false

-- each stack that is in both documents shows the same outside its rectangles
abbrev pub SameBeyond : (old new : Document) → (rects : ℕ → List Rect) → Type 0
SameBeyond old new rects =
    (stack : ℕ) → HasStack old.nodes stack → HasStack new.nodes stack → SameOutside old new stack (rects stack)

-- a document within its limits, an edit of it that is not refused, and a next id above all of its ids
pub record IsAccepted (d : Document) (next : ℕ) (edit : Edit) : Type 0 where
  pub limits : IsDocument d
  pub passes : refusal d edit ≡ None
  pub above : AllByRecursion (λ id. id < next) (ids d.nodes)

-- the damage of an edit holds all that the edit changes in any picture
abbrev pub IsSound : Edit → Type 0
IsSound edit =
    (d : Document) (next : ℕ) (table : List ℕ) → IsAccepted d next edit → SameBeyond d (effect d next table edit) (damage_of d edit)

-- the same of a group of edits, done and undone
abbrev pub IsGroupSound : (edits : List Edit) → (tables : List (List ℕ)) → Type 0
IsGroupSound edits tables =
    (old new : At) → IsAt old → apply_group old edits tables ≡ Ok new
    → SameBeyond old.document new.document (group_damage old edits tables)
    × SameBeyond new.document old.document (group_damage old edits tables)

-- each tile of the stack that shares no point with the rectangles shows the same in both documents
abbrev pub SameTiles : (old new : Document) → (stack : ℕ) → List Rect → Type 0
SameTiles old new stack rects =
    (at : TileAt) → list_any (λ r. do_meet r (tile_rect old.width old.height at)) rects ≡ false
    → project old stack at ≡ project new stack at

-- a group of edits changes no tile that its damage does not meet
abbrev pub KeepsTiles : (edits : List Edit) → (tables : List (List ℕ)) → Type 0
KeepsTiles edits tables =
    (old new : At) → IsAt old → apply_group old edits tables ≡ Ok new
    → (stack : ℕ) → HasStack old.document.nodes stack → HasStack new.document.nodes stack
    → SameTiles old.document new.document stack (group_damage old edits tables stack)
