-- An undo record as contracts see it.
use Rattle.std.specs.Prelude.{◌≡◌, ℕ}
use Rattle.spec_document.specs.Document.{Document}

-- the document that is led from, and the one that is led to
pub record Way : Type 0 where
  pub from : Document
  pub to : Document

-- the same way, from its other end
abbrev pub back_along : Way → Way
back_along w = record { from = w.to; to = w.from }

-- the document that it leads from, the one that it leads to, and how many tiles were counted when it was made
pub record Leads : Type 0 where
  pub from : Document
  pub to : Document
  pub tiles : ℕ

-- the record leads from the document after a change to the one before it
pub record LeadsBack (before after : Document) (r : Leads) : Type 0 where
  pub from : r.from ≡ after
  pub to : r.to ≡ before

-- the same record, from its other end
abbrev pub turned : Leads → Leads
turned r = record { from = r.to; to = r.from; tiles = r.tiles }
