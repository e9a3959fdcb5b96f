-- What a document has at an id, by the node that its tree has there.
use Rattle.std.specs.Prelude.{◌≡◌, Option, Some, None}
use Rattle.spec_document.specs.Forest.{Found, nothing, a_leaf, a_group}
use Rattle.spec_document.specs.Document.{Layer, Group}
use Rattle.xl_doc.specs.declared.node.Node.{Node}
use Rattle.xl_doc.specs.declared.node.Body.{Body}
use Rattle.xl_doc.specs.declared.node.Body.TheVariants as body
use Rattle.xl_doc.specs.Nodes.{IsGroup}

-- the body is that of the layer
abbrev pub IsLayerOf : Layer → Body → Type 0
IsLayerOf l (body.Leaf sheet) = (sheet.plane ≡ l.plane) × (sheet.mask ≡ l.mask)
IsLayerOf l body.Group = ⊥

-- there is no node, or it is the layer, or it is a group
abbrev pub IsSeen : Found Layer Group → Option Node → Type 0
IsSeen nothing None = Unit {0}
IsSeen nothing (Some n) = ⊥
IsSeen (a_leaf l) None = ⊥
IsSeen (a_leaf l) (Some n) = IsLayerOf l n.body
IsSeen (a_group g children) None = ⊥
IsSeen (a_group g children) (Some n) = IsGroup n.body
