-- The groups of a document, whose pictures are written beside their layers.
use Rattle.std.specs.Prelude.{◌≢◌, ℕ, IsSome}
use Rattle.spec_document.specs.Forest.{none, leaf, group, stack_at}
use Rattle.spec_document.specs.Document.{Document, Nodes}

-- the id names a group of the document
pub record IsGroupOf (d : Document) (id : ℕ) : Type 0 where
  pub some : id ≢ 0
  pub stack : IsSome (stack_at id d.nodes)

-- the id of each group among the nodes names a group of the document
abbrev pub AreGroupsOf : Document → Nodes → Type 0
AreGroupsOf d none = Unit {0}
AreGroupsOf d (leaf id l under) = AreGroupsOf d under
AreGroupsOf d (group id g children under) = IsGroupOf d id × (AreGroupsOf d children × AreGroupsOf d under)
