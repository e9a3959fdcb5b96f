-- A tile shows the same until it is damaged.
use Rattle.std.specs.Prelude.{◌≡◌, ℕ, ◌+◌, ◌-◌, ◌<◌, ◌≤◌, true, false, Ok}
use Rattle.std.specs.List.{list_any}
use Rattle.spec_document.specs.declared.TileAt.{TileAt}
use Rattle.spec_document.specs.Rect.{do_meet}
use Rattle.spec_document.specs.Grid.{tile_rect}
use Rattle.spec_document.specs.Document.{Document}
use Rattle.spec_damage.specs.Picture.{project}
use Rattle.spec_edit.specs.Apply.{At, apply_group}
use Rattle.spec_damage.specs.Damage.{group_damage}
use Rattle.spec_history.specs.Machine.{Cause, State, latest, document_at, has_stack}
use Rattle.spec_history.specs.Kept.{damaged_at}

-- ---- the same tile until damaged

-- the stack is there at each version from a to b
abbrev pub StackStays : Document → State → (stack : ℕ) → (a b : ℕ) → Type 0
StackStays base s stack a b = (v : ℕ) → a ≤ v → v ≤ b → has_stack (document_at base s v) stack ≡ true

-- no version after a and up to b damages the tile
abbrev pub IsUndamaged : Document → State → (stack : ℕ) → TileAt → (a b : ℕ) → Type 0
IsUndamaged base s stack at a b = (w : ℕ) → a < w → w ≤ b → damaged_at base s stack at w ≡ false

-- ---- groups and versions that keep tiles

-- a group of edits changes no tile that its damage does not meet, where the stack is there before and after
abbrev pub GroupKeepsTiles : Cause → Type 0
GroupKeepsTiles c =
    (new : At) → apply_group c.old c.edits c.tables ≡ Ok new
    → (stack : ℕ) (at : TileAt) → has_stack c.old.document stack ≡ true → has_stack new.document stack ≡ true
    → list_any (λ r. do_meet r (tile_rect c.old.document.width c.old.document.height at))
    (group_damage c.old c.edits c.tables stack) ≡ false
    → project c.old.document stack at ≡ project new.document stack at

-- a version shows a tile that it does not damage as the version before does, where the stack is there at both
abbrev pub VersionKeepsTiles : Document → State → (version : ℕ) → Type 0
VersionKeepsTiles base s version =
    (stack : ℕ) (at : TileAt) → has_stack (document_at base s (version - 1)) stack ≡ true
    → has_stack (document_at base s version) stack ≡ true
    → damaged_at base s stack at version ≡ false
    → project (document_at base s version) stack at ≡ project (document_at base s (version - 1)) stack at

-- ---- what a new version damages

-- one version more, which has the document of the one version and damages what the other did
pub record IsAgain (base : Document) (s t : State) (version cause : ℕ) : Type 0 where
  pub next_is : latest t ≡ latest s + 1
  pub document_is : document_at base t (latest t) ≡ document_at base s version
  pub damage : (stack : ℕ) (at : TileAt) → damaged_at base t stack at (latest t) ≡ damaged_at base s stack at cause
