-- How many levels a stack of a document has.
use Rattle.std.specs.Prelude.{ℕ, Option, Some, None}
use Rattle.spec_document.specs.Forest.{levels, stack_at}
use Rattle.spec_document.specs.Document.{Document, Nodes}

abbrev pub levels_in : Option Nodes → ℕ
levels_in None = 0
levels_in (Some nodes) = levels nodes

-- of a document's stack: a layer is one level, and a group one more than what is in it
abbrev pub levels_below : Document → (stack : ℕ) → ℕ
levels_below d stack = levels_in (stack_at stack d.nodes)

-- what there is memory for: rows of so many pixels, and stacks of so many levels
pub record Reach : Type 0 where
  pub width : ℕ
  pub levels : ℕ
