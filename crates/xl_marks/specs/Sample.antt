-- The document of the tests.
use Rattle.std.specs.Prelude.{[], None}
use Rattle.spec_document.specs.Forest.{Forest}
use Rattle.spec_document.specs.declared.Base.TheVariants.{Rgb}
use Rattle.spec_document.specs.Document.{Document}
use Rattle.xl_doc.specs.declared.node.Node.{Node}
use Rattle.xl_doc.specs.Nodes.{nodes_of}

-- a canvas of two tiles with the nodes of a tree
abbrev pub canvas_of : Forest Node Node → Document
canvas_of tree =
    record {
      width = 70;
      height = 10;
      base = Rgb;
      compression = 1;
      colours = [];
      kept = [];
      nodes = nodes_of tree;
      channels = [];
      selection = None;
    }
