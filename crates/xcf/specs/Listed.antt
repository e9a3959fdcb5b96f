-- The nodes of a document in a list, from the top down.
use Rattle.std.specs.Prelude.{ℕ, ◌+◌, List, [], ◌∷◌, ◌++◌}
use Rattle.spec_document.specs.Forest.{none, leaf, group}
use Rattle.spec_document.specs.Document.{Layer, Group, Nodes}
use Rattle.xl_doc.specs.Nodes.{layer_of, group_of}
use Rattle.xl_doc.specs.declared.node.Node.{Node}
use Rattle.xl_doc.specs.declared.node.Body.{Body}
use Rattle.xl_doc.specs.declared.node.Body.TheVariants as body

pub data Part : Type 0 where
  a_layer : Layer → Part
  a_group : Group → Part

-- the id of a node, in how many groups it stands, and the layer or the group
pub record Item : Type 0 where
  pub id : ℕ
  pub depth : ℕ
  pub part : Part

-- each node before what is under it, a group before its children, which stand one deeper
abbrev pub listed_at : (depth : ℕ) → Nodes → List Item
listed_at depth none = []
listed_at depth (leaf id layer under) = record { id = id; depth = depth; part = a_layer layer } ∷ listed_at depth under
listed_at depth (group id g children under) =
    record { id = id; depth = depth; part = a_group g } ∷ (listed_at (depth + 1) children ++ listed_at depth under)

abbrev pub listed : Nodes → List Item
listed nodes = listed_at 0 nodes

abbrev pub part_by : Node → Body → Part
part_by node (body.Leaf sheet) = a_layer (layer_of node)
part_by node body.Group = a_group (group_of node)

-- a node in that list
abbrev pub item_of : (id depth : ℕ) → Node → Item
item_of id depth node = record { id = id; depth = depth; part = part_by node node.body }
