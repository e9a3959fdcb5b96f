-- What a document's type keeps.
use Rattle.spec_document.specs.Forest.{Forest}
use Rattle.spec_document.specs.Document.{Document}
use Rattle.spec_document.specs.Limits.{IsDocument}
use Rattle.xl_doc.specs.declared.node.Node.{Node}
use Rattle.xl_doc.specs.Nodes.{MarksAgree}

-- the tree has its layers and groups where it says, and the document is within all its limits
pub record IsSound (tree : Forest Node Node) (d : Document) : Type 0 where
  pub marks : MarksAgree tree
  pub limits : IsDocument d
