-- A document without nodes, channels and a selection is within its limits.
use Rattle.std.proofs.Common.{◌≡◌, ℕ, ◌≤◌, List, [], subst, sym, arith}
use Rattle.std.specs.Prelude.{None}
use Rattle.std.specs.List.{IsDistinct}
use Rattle.spec_document.specs.Forest.{Forest, none}
use Rattle.spec_document.specs.declared.Base.{Base}
use Rattle.spec_document.specs.Document.{Document}
use Rattle.spec_document.specs.Limits.{AreColours, AreIds, IsDocument, IsSide}
use Rattle.xl_doc.specs.declared.node.Node.{Node}
use Rattle.xl_doc.specs.Nodes.{nodes_of}
use Rattle.xl_doc.specs.Sound.{IsSound}

no_ids : AreIds []
unfolding IsDistinct
no_ids = record { distinct = tt; positive = tt; word = tt }

abbrev pub blank : (width height : ℕ) → Base → (compression : ℕ) → List (List ℕ) → Document
blank width height base compression colours = record {
  width = width;
  height = height;
  base = base;
  compression = compression;
  colours = colours;
  kept = [];
  nodes = none;
  channels = [];
  selection = None;
}

pub blank_is_document : (width height : ℕ) (base : Base) (compression : ℕ) (colours : List (List ℕ)) → IsSide width → IsSide height
    → compression ≤ 1 → AreColours base colours
    → IsDocument (blank width height base compression colours)
blank_is_document width height base compression colours wide high known are = record {
  width = wide;
  height = high;
  compression = known;
  colours = are;
  kept = record { few = omega arith; each = tt };
  nodes = tt;
  ids = no_ids;
  few = omega arith;
  low = omega arith;
  channels = tt;
  few_channels = omega arith;
  selection = tt;
  area = omega arith;
  kept_bytes = omega arith;
}

pub blank_sound : (tree : Forest Node Node) (d : Document) (width height : ℕ) (base : Base) (compression : ℕ)
    (colours : List (List ℕ))
    → tree ≡ none → d ≡ record (blank width height base compression colours) { nodes = nodes_of tree } → IsSide width
    → IsSide height → compression ≤ 1 → AreColours base colours → IsSound tree d
blank_sound tree d width height base compression colours empty d_is wide high known are =
    let P : Forest Node Node → Type 0 =
    λ t. IsSound t (record (blank width height base compression colours) { nodes = nodes_of t }) in
    let Q : Document → Type 0 = IsSound tree in
    subst Q (sym d_is) (subst P (sym empty)
    (record { marks = tt; limits = blank_is_document width height base compression colours wide high known are }))
