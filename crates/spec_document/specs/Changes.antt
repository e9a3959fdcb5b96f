-- Changes of an ordered forest.
use Rattle.std.specs.Prelude.{ℕ, zero, suc, ◌+◌, ◌==◌, if◌then◌else◌, List, [], ◌∷◌, Option, Some, None, option_map}
use Rattle.spec_document.specs.Forest.{Forest, none, leaf, group, size}

-- the nodes of the one forest, and under them those of the other
abbrev pub above : {L G : Type 0} → Forest L G → Forest L G → Forest L G
above none forest = forest
above (leaf id what under) forest = leaf id what (above under forest)
above (group id what children under) forest = group id what children (above under forest)

-- a branch is put in before the node at a place, counted from the top
abbrev pub put_at : {L G : Type 0} → (branch : Forest L G) → (place : ℕ) → Forest L G → Forest L G
put_at branch zero forest = above branch forest
put_at branch (suc place) none = above branch none
put_at branch (suc place) (leaf id what under) = leaf id what (put_at branch place under)
put_at branch (suc place) (group id what children under) = group id what children (put_at branch place under)

-- each leaf with this id is changed
abbrev pub with_leaf : {L G : Type 0} → ℕ → (L → L) → Forest L G → Forest L G
with_leaf id change none = none
with_leaf id change (leaf i what under) = leaf i (if id == i then change what else what) (with_leaf id change under)
with_leaf id change (group i what children under) = group i what (with_leaf id change children) (with_leaf id change under)

-- each group with this id is changed, but for its children
abbrev pub with_group : {L G : Type 0} → ℕ → (G → G) → Forest L G → Forest L G
with_group id change none = none
with_group id change (leaf i what under) = leaf i what (with_group id change under)
with_group id change (group i what children under) =
    group i (if id == i then change what else what) (with_group id change children) (with_group id change under)

-- the children of each group with this id are changed
abbrev pub with_children : {L G : Type 0} → ℕ → (Forest L G → Forest L G) → Forest L G → Forest L G
with_children id change none = none
with_children id change (leaf i what under) = leaf i what (with_children id change under)
with_children id change (group i what children under) =
    group i what (if id == i then change children else with_children id change children) (with_children id change under)

-- a branch is put into a stack
abbrev pub put_into : {L G : Type 0} → (stack : ℕ) → (place : ℕ) → (branch : Forest L G) → Forest L G → Forest L G
put_into stack place branch forest =
    if stack == 0 then put_at branch place forest else with_children stack (put_at branch place) forest

-- the forest without a node and all below it
abbrev pub without : {L G : Type 0} → ℕ → Forest L G → Forest L G
without id none = none
without id (leaf i what under) = if id == i then under else leaf i what (without id under)
without id (group i what children under) = if id == i then under else group i what (without id children) (without id under)

-- a node and all below it, alone
abbrev pub branch_of : {L G : Type 0} → ℕ → Forest L G → Forest L G
branch_of id none = none
branch_of id (leaf i what under) = if id == i then leaf i what none else branch_of id under
branch_of id (group i what children under) =
    if id == i then group i what children none else above (branch_of id children) (branch_of id under)

-- each node with the number of its place in preorder, from the first on
abbrev pub numbered : {L G : Type 0} → (first : ℕ) → Forest L G → Forest L G
numbered first none = none
numbered first (leaf id what under) = leaf first what (numbered (1 + first) under)
numbered first (group id what children under) =
    group first what (numbered (1 + first) children) (numbered (1 + first + size children) under)

-- A branch goes last among the children of the group that the path names by places from the top; none where it names no group.
abbrev pub put_last : {L G : Type 0} → (path : List ℕ) → (branch : Forest L G) → Forest L G → Option (Forest L G)
put_last [] branch forest = Some (above forest branch)
put_last (place ∷ path) branch none = None
put_last (zero ∷ path) branch (leaf id what under) = None
put_last (zero ∷ path) branch (group id what children under) =
    option_map (λ changed. group id what changed under) (put_last path branch children)
put_last (suc place ∷ path) branch (leaf id what under) = option_map (leaf id what) (put_last (place ∷ path) branch under)
put_last (suc place ∷ path) branch (group id what children under) =
    option_map (group id what children) (put_last (place ∷ path) branch under)
