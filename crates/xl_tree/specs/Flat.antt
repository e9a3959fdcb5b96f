-- A list of entries in preorder, each with its depth, as a forest.
use Rattle.std.specs.Prelude.{ℕ, max, zero, suc, Bool, true, false, nat_lt, List, [], ◌∷◌, ◌++◌, length, take, drop}
use Rattle.std.specs.Prelude.{◌==◌, if◌then◌else◌}
use Rattle.std.specs.List.{prefix_len}
use Rattle.spec_document.specs.Forest.{Forest, none, leaf, group}
use Rattle.xl_tree.specs.declared.entries.NodeEntry.{NodeEntry}

-- the entries of a forest in preorder
abbrev pub flat : {N : Type 0} → (level : ℕ) → Forest N N → List (NodeEntry N)
flat level none = []
flat level (leaf id node under) = record { id = id; level = level; group = false; node = node } ∷ flat level under
flat level (group id node children under) =
    record { id = id; level = level; group = true; node = node } ∷ (flat (suc level) children ++ flat level under)

-- how many entries at the front are deeper
abbrev pub below : {N : Type 0} → (level : ℕ) → List (NodeEntry N) → ℕ
below level es = prefix_len (λ e. nat_lt level e.level) es

abbrev pub node_of : {N : Type 0} → Bool → (id : ℕ) → N → (children under all : Forest N N) → Forest N N
node_of true id node children under all = group id node children under
node_of false id node children under all = leaf id node all

-- the forest of at most n entries
abbrev pub forest_from : {N : Type 0} → (n : ℕ) → List (NodeEntry N) → Forest N N
forest_from zero es = none
forest_from (suc n) [] = none
forest_from (suc n) (e ∷ es) =
    let k = below e.level es in
    node_of e.group e.id e.node (forest_from n (take k es)) (forest_from n (drop k es)) (forest_from n es)

abbrev pub forest_of : {N : Type 0} → List (NodeEntry N) → Forest N N
forest_of es = forest_from (length es) es

-- the entries from the first with an id on
abbrev pub from_id : {N : Type 0} → (id : ℕ) → List (NodeEntry N) → List (NodeEntry N)
from_id id [] = []
from_id id (e ∷ es) = if id == e.id then e ∷ es else from_id id es

-- the deepest level
abbrev pub deepest : {N : Type 0} → List (NodeEntry N) → ℕ
deepest [] = 0
deepest (e ∷ es) = max e.level (deepest es)
