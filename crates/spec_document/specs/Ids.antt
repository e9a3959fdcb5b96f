-- The ids of a document that is begun with.
use Rattle.std.specs.Prelude.{ℕ, ◌+◌, max, fold}
use Rattle.spec_document.specs.Forest.{ids}
use Rattle.spec_document.specs.Document.{Document}

-- the id that the next new node takes: one above the greatest
abbrev pub next_id : Document → ℕ
next_id d = 1 + fold max 0 (ids d.nodes)
