-- The group behind each version leads from the version before to it, or, where it was undone, back.
use Rattle.std.specs.Prelude.{◌≡◌, ℕ, ◌-◌, ◌≤◌, ◌⊎◌, slice_get, IsSomeAnd, Ok}
use Rattle.std.specs.List.{AllByRecursion}
use Rattle.spec_document.specs.Document.{Document}
use Rattle.spec_edit.specs.Apply.{At, apply_group}
use Rattle.spec_history.specs.Machine.{Cause, Done, State, latest, document_at}

-- the group makes the one document of the other
pub record Leads (c : Cause) (from to : Document) : Type 0 where
  pub new : At
  pub applied : apply_group c.old c.edits c.tables ≡ Ok new
  pub from_is : c.old.document ≡ from
  pub to_is : new.document ≡ to

-- a group that was made leads from its version before to its version after
abbrev pub DoneLeads : Document → State → Done → Type 0
DoneLeads base s d =
    IsSomeAnd (slice_get s.causes (d.after - 1)) (λ c. Leads c (document_at base s d.before) (document_at base s d.after))

pub record IsLed (base : Document) (s : State) : Type 0 where
  pub versions : (v : ℕ) → 1 ≤ v → v ≤ latest s → IsSomeAnd (slice_get s.causes (v - 1)) (λ c.
      Leads c (document_at base s (v - 1)) (document_at base s v) ⊎ Leads c (document_at base s v) (document_at base s (v - 1)))
  pub undo : AllByRecursion (DoneLeads base s) s.undo
  pub redo : AllByRecursion (DoneLeads base s) s.redo
