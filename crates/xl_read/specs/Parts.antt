-- What the tree of a document keeps while it is read.
use Rattle.std.specs.Prelude.{◌≤◌}
use Rattle.std.specs.List.{AllByRecursion}
use Rattle.spec_document.specs.Forest.{Forest, ids, size}
use Rattle.xl_doc.specs.declared.node.Node.{Node}
use Rattle.xl_doc.specs.Nodes.{MarksAgree}

-- the tree has its layers and groups where it says, and each id is at most the number of nodes
pub record AreParts (tree : Forest Node Node) : Type 0 where
  pub marks : MarksAgree tree
  pub counted : AllByRecursion (λ id. id ≤ size tree) (ids tree)
