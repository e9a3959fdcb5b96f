-- What the pieces of nodes weigh, where the pictures of some groups are given.
use Rattle.std.proofs.Common.{◌≡◌, ℕ, ◌+◌, Bool, true, false, cond, List, [], ◌∷◌, ◌++◌, ◌∙◌, ap, arith, append-nil}
use Rattle.std.specs.Prelude.{Option, Some, None}
use Rattle.spec_document.specs.Forest.{stack_at}
use Rattle.spec_document.specs.Document.{Document, Nodes}
use Rattle.spec_document.specs.Picture.{mode_above}
use Rattle.xl_doc.specs.declared.node.Node.{Node}
use Rattle.xl_doc.specs.Nodes.{sheet_of}
use Rattle.xl_compose.specs.declared.pieces.Piece.{Piece}
use Rattle.xl_compose.specs.declared.pieces.What.TheVariants.{Leaf}
use Rattle.xl_compose.specs.Cost.{laid_in, laid_of, laid_below, one_if, spared, visible_with}
use Rattle.xl_compose.specs.NodePieces.{blank_piece, clean_piece, leaf_pieces, stack_piece}
use Rattle.xl_compose.specs.Pieces.{weights}
use Rattle.xl_compose.proofs.PieceRuns.{weights-push}

-- no node
pub blank_weighs : (level : ℕ) (old new : List Piece) → new ≡ old ++ blank_piece level ∷ [] → weights new ≡ weights old + 0
blank_weighs level old new is = ap weights is ∙ weights-push old (blank_piece level)

leaf_by : (b : Bool) (level : ℕ) (some : Bool) (n : Node) (mid : List Piece)
    → weights (mid ++ cond b (record { level = level; what = Leaf (mode_above some n.mode) n.opacity (sheet_of n.body) } ∷ []) [])
    ≡ weights mid + one_if b
leaf_by true level some n mid =
    weights-push mid (record { level = level; what = Leaf (mode_above some n.mode) n.opacity (sheet_of n.body) })
leaf_by false level some n mid = ap weights (append-nil mid) ∙ omega arith

-- a layer
pub leaf_weighs : (level : ℕ) (some : Bool) (n : Node) (old mid new : List Piece) (under : ℕ) → weights mid ≡ weights old + under
    → new ≡ mid ++ leaf_pieces level some n
    → weights new ≡ weights old + (one_if n.visible + under)
leaf_weighs level some n old mid new under before is =
    let all : weights new ≡ weights mid + one_if n.visible = ap weights is ∙ leaf_by n.visible level some n mid in
    omega (arith, before, all)

over_weighs : (level : ℕ) (some : Bool) (n : Node) (inner new : List Piece) → new ≡ inner ++ stack_piece level some n ∷ []
    → weights new ≡ weights inner + 1
over_weighs level some n inner new is = ap weights is ∙ weights-push inner (stack_piece level some n)

-- a group whose picture is given
pub given_weighs : (level : ℕ) (some : Bool) (n : Node) (old mid inner new : List Piece) (bytes : List ℕ) (under inside : ℕ)
    (given : Option (List ℕ)) → n.visible ≡ true
    → given ≡ Some bytes → weights mid ≡ weights old + under → inner ≡ mid ++ clean_piece (level + 1) bytes ∷ []
    → new ≡ inner ++ stack_piece level some n ∷ []
    → weights new ≡ weights old + (visible_with n.visible (spared given inside) + under)
given_weighs level some n old mid inner new bytes under inside given visible is before kept over =
    let one : visible_with n.visible (spared given inside) ≡ 1 + 0 = (λ i. visible_with (visible i) (spared (is i) inside)) in
    let copied : weights inner ≡ weights mid + 0 = ap weights kept ∙ weights-push mid (clean_piece (level + 1) bytes) in
    omega (arith, one, copied, before, over_weighs level some n inner new over)

-- a group whose nodes are laid
pub group_weighs : (level : ℕ) (some : Bool) (n : Node) (old mid inner new : List Piece) (under inside : ℕ)
    (given : Option (List ℕ)) → n.visible ≡ true → given ≡ None
    → weights mid ≡ weights old + under → weights inner ≡ weights mid + inside → new ≡ inner ++ stack_piece level some n ∷ []
    → weights new ≡ weights old + (visible_with n.visible (spared given inside) + under)
group_weighs level some n old mid inner new under inside given visible is before in_it over =
    let all : visible_with n.visible (spared given inside) ≡ 1 + inside = (λ i. visible_with (visible i) (spared (is i) inside)) in
    omega (arith, all, before, in_it, over_weighs level some n inner new over)

-- the pieces of a stack, from none
pub stack_weighs : (clean : ℕ → Option (List ℕ)) (d : Document) (stack : ℕ) (s : Nodes) (old pieces : List Piece) → old ≡ []
    → stack_at stack d.nodes ≡ Some s
    → weights pieces ≡ weights old + laid_in clean s → weights pieces ≡ laid_below clean d stack
stack_weighs clean d stack s old pieces none is weighs =
    let nothing : weights old ≡ 0 = ap weights none in
    let same : laid_below clean d stack ≡ laid_in clean s = ap (laid_of clean) is in
    omega (arith, nothing, same, weighs)
