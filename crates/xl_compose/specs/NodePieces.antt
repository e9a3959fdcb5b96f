-- The pieces of one node.
use Rattle.std.specs.Prelude.{ℕ, Bool, if◌then◌else◌, List, [], ◌∷◌}
use Rattle.spec_document.specs.Picture.{mode_above}
use Rattle.xl_doc.specs.declared.node.Node.{Node}
use Rattle.xl_doc.specs.Nodes.{sheet_of}
use Rattle.xl_compose.specs.declared.pieces.Piece.{Piece}
use Rattle.xl_compose.specs.declared.pieces.What.TheVariants.{Blank, Leaf, Clean, Stack}

abbrev pub blank_piece : (level : ℕ) → Piece
blank_piece level = record { level = level; what = Blank }

-- a hidden layer is no piece
abbrev pub leaf_pieces : (level : ℕ) → (some_under : Bool) → Node → List Piece
leaf_pieces level some_under n =
    if n.visible then record { level = level; what = Leaf (mode_above some_under n.mode) n.opacity (sheet_of n.body) } ∷ [] else []

abbrev pub clean_piece : (level : ℕ) → (bytes : List ℕ) → Piece
clean_piece level bytes = record { level = level; what = Clean bytes }

-- a group, whose picture is at the next level
abbrev pub stack_piece : (level : ℕ) → (some_under : Bool) → Node → Piece
stack_piece level some_under n = record { level = level; what = Stack (mode_above some_under n.mode) n.opacity }
