-- The ids of entries and of nodes.
use Rattle.std.specs.Prelude.{◌≡◌, ℕ, ◌≤◌, nat_eq, List, map}
use Rattle.std.specs.List.{AllByRecursion, IsDistinct}
use Rattle.spec_document.specs.Forest.{Forest, find, nothing}
use Rattle.xl_tree.specs.declared.entries.NodeEntry.{NodeEntry}

-- in their order
abbrev pub ids_of : {N : Type 0} → List (NodeEntry N) → List ℕ
ids_of es = map (λ e. e.id) es

-- each node has an id of its own, from 1 on
pub record AreOwn (numbers : List ℕ) : Type 0 where
  pub distinct : IsDistinct nat_eq numbers
  pub positive : AllByRecursion (λ id. 1 ≤ id) numbers

-- a new node may have this id: it is from 1 on, and no node has it
pub record IsNew {L G : Type 0} (id : ℕ) (forest : Forest L G) : Type 0 where
  pub positive : 1 ≤ id
  pub nowhere : find id forest ≡ nothing
