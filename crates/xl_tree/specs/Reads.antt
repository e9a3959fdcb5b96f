-- What a tree tells of one node or one stack.
use Rattle.std.specs.Prelude.{◌≡◌, ℕ, ◌+◌, Bool, false, if◌then◌else◌, Option, Some, None}
use Rattle.spec_document.specs.Forest.{Forest, none, leaf, group, size, levels, Found, nothing, a_leaf, a_group}
use Rattle.xl_tree.specs.declared.entries.NodeEntry.{NodeEntry}
use Rattle.spec_document.specs.Holes.{from_place}
use Rattle.xl_tree.specs.Places.{first_some}

-- a node with this entry and these children was found
abbrev pub found_as : {N : Type 0} → NodeEntry N → (children : Forest N N) → Found N N
found_as entry children = if entry.group then a_group entry.node children else a_leaf entry.node

-- the entry and the children of what was found; a leaf has none
pub record IsFound {N : Type 0} (found : Found N N) (entry : NodeEntry N) (children : Forest N N) : Type 0 where
  pub found_is : found ≡ found_as entry children
  pub leaf_is : entry.group ≡ false → children ≡ none

-- what is in the node
abbrev pub node_of : {N : Type 0} → Found N N → Option N
node_of nothing = None
node_of (a_leaf node) = Some node
node_of (a_group node children) = Some node

-- how many nodes there are from the node down
abbrev pub size_of : {N : Type 0} → Found N N → ℕ
size_of nothing = 0
size_of (a_leaf node) = 1
size_of (a_group node children) = 1 + size children

-- how many levels there are from the node down
abbrev pub levels_of : {N : Type 0} → Found N N → ℕ
levels_of nothing = 0
levels_of (a_leaf node) = 1
levels_of (a_group node children) = 1 + levels children

abbrev pub first_id : {N : Type 0} → Forest N N → Option ℕ
first_id none = None
first_id (leaf id node under) = Some id
first_id (group id node children under) = Some id

-- the id of the child at a place, counted from the top
abbrev pub child_at : {N : Type 0} → (place : ℕ) → Forest N N → Option ℕ
child_at place forest = first_id (from_place place forest)

-- the id of the last child that is shown
abbrev pub bottom_shown : {N : Type 0} → (shown : N → Bool) → Forest N N → Option ℕ
bottom_shown shown none = None
bottom_shown shown (leaf id node under) = first_some (bottom_shown shown under) (if shown node then Some id else None)
bottom_shown shown (group id node children under) = first_some (bottom_shown shown under) (if shown node then Some id else None)
