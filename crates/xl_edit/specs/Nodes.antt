-- Nodes that are put in.
use Rattle.std.specs.Prelude.{ℕ}
use Rattle.spec_document.specs.Document.{Nodes}
use Rattle.xl_doc.specs.declared.node.Node.{Node}
use Rattle.xl_doc.specs.Nodes.{nodes_of, is_group_body}
use Rattle.xl_tree.specs.Places.{alone}

-- a node without children, as a layer or a group
abbrev pub one_node : (id : ℕ) → Node → Nodes
one_node id n = nodes_of (alone (is_group_body n.body) id n)
