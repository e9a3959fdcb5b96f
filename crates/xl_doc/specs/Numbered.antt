-- The ids of nodes that are counted.
use Rattle.std.specs.Prelude.{◌≤◌, nat_eq}
use Rattle.std.specs.List.{AllByRecursion, IsDistinct}
use Rattle.spec_document.specs.Forest.{ids, size}
use Rattle.spec_document.specs.Document.{Nodes}
use Rattle.spec_document.specs.declared.TheConstants.{MAX_NODES}

-- the nodes have the ids 1, 2 and so on, each once, and they are few
pub record AreNumbered (nodes : Nodes) : Type 0 where
  pub distinct : IsDistinct nat_eq (ids nodes)
  pub positive : AllByRecursion (λ id. 1 ≤ id) (ids nodes)
  pub within : AllByRecursion (λ id. id ≤ size nodes) (ids nodes)
  pub few : size nodes ≤ MAX_NODES
