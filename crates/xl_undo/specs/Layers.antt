-- A layer of a document that is kept while the document gets another one in its place.
use Rattle.std.specs.Prelude.{◌≡◌, ℕ}
use Rattle.spec_document.specs.Forest.{find, a_leaf}
use Rattle.spec_document.specs.Document.{Document, Layer}
use Rattle.spec_document.specs.Limits.{IsDocument}
use Rattle.spec_edit.specs.Effect.{change_leaf}
use Rattle.xl_doc.specs.declared.node.Node.{Node}
use Rattle.xl_doc.specs.Nodes.{layer_of, IsLeaf}

-- the layer with an id, as a document has it
pub record LayerIn : Type 0 where
  pub id : ℕ
  pub document : Document

-- the document has a layer with this id
abbrev pub HasLayer : Document → (id : ℕ) → Type 0
HasLayer d id = (l : Layer) × (find id d.nodes ≡ a_leaf l)

-- the node is the layer with this id
pub record IsNodeOf (d : Document) (id : ℕ) (n : Node) : Type 0 where
  pub limits : IsDocument d
  pub leaf : IsLeaf n.body
  pub found : find id d.nodes ≡ a_leaf (layer_of n)

-- the new document has another layer with this id, and is the old one else
abbrev pub ChangesLayer : (id : ℕ) → (old new : Document) → Type 0
ChangesLayer id old new = (change : Layer → Layer) × (new ≡ change_leaf old id change)
