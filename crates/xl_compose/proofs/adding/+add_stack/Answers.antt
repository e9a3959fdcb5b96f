use Rattle.std.proofs.Common.{◌≡◌, ◌+◌, ◌++◌, ◌∷◌, [], List, subst, sym, ◌∙◌, ap, arith}
use Rattle.spec_document.specs.Picture.{any_visible}
use Rattle.xl_doc.specs.Nodes.{nodes_of, layer_of, group_of}
use Rattle.spec_document.specs.Forest.{none, leaf, group}
use Rattle.xl_compose.specs.declared.pieces.Piece.{Piece}
use Rattle.xl_compose.specs.Added.{AreAdded}
use Rattle.xl_compose.specs.NodePieces.{leaf_pieces, stack_piece}
use Rattle.xl_compose.proofs.AddedPieces.{blank_added, clean_added, group_added, hidden_added, leaf_added}
use Rattle.xl_compose.proofs.LaidCosts.{blank_weighs, given_weighs, group_weighs, leaf_weighs}
use Rattle.xl_compose.proofs.adding.+add_stack.Goals as goal

pub returns-in_ok-add_blank-in-Empty-clause-added : goal.returns-in_ok-add_blank-in-Empty-clause-added
returns-in_ok-add_blank-in-Empty-clause-added g t c =
    rw (← c.in-Empty.ensures.parts) (λ deep colours band low right.
    let P : List Piece → Type 0 = λ new. AreAdded deep colours band c.args.level none c.args.pieces.now.items new in
    subst P (sym c.in_ok-add_blank-in-Empty.ensures)
    (blank_added deep colours band c.args.level c.args.pieces.now.items (omega (arith, low))))

pub returns-then-node-clause-added : goal.returns-then-node-clause-added
returns-then-node-clause-added g t c =
    rw (← c.in-Leaf.ensures.parts) (λ deep colours band low right.
    let under = nodes_of c.in-Leaf.under in
    let n = c.in-Leaf.node.now in
    let mid = c.add_stack.new.pieces.items in
    let is : AreAdded deep colours band c.args.level under c.args.pieces.now.items mid =
    c.in_ok-some_under-in-Leaf.ensures.added deep colours band (omega (arith, low)) right in
    let new_is : c.add_leaf.new.pieces.items ≡ mid ++ leaf_pieces c.args.level (any_visible under) n =
    c.in_ok-add_leaf-in-Leaf.ensures ∙ ap (λ b. mid ++ leaf_pieces c.args.level b n) c.in_ok-some_under-in-Leaf.ensures.any in
    let P : List Piece → Type 0 = λ new.
    AreAdded deep colours band c.args.level (leaf c.in-Leaf.id.0 (layer_of n) under) c.args.pieces.now.items new in
    subst P (sym new_is) (leaf_added deep colours band c.args.level c.in-Leaf.id.0 n under c.args.pieces.now.items mid
    (omega (arith, low)) is))

pub returns-else-node-clause-added : goal.returns-else-node-clause-added
returns-else-node-clause-added g t c =
    rw (← c.in-Leaf.ensures.parts) (λ deep colours band low right.
    let under = nodes_of c.in-Leaf.under in
    let n = c.in-Leaf.node.now in
    let mid = c.add_stack.new.pieces.items in
    let is : AreAdded deep colours band c.args.level under c.args.pieces.now.items mid =
    c.in_ok-some_under-in-Leaf.ensures.added deep colours band (omega (arith, low)) right in
    let new_is : c.add_leaf.new.pieces.items ≡ mid ++ leaf_pieces c.args.level (any_visible under) n =
    c.in_ok-add_leaf-in-Leaf.ensures ∙ ap (λ b. mid ++ leaf_pieces c.args.level b n) c.in_ok-some_under-in-Leaf.ensures.any in
    let P : List Piece → Type 0 = λ new.
    AreAdded deep colours band c.args.level (leaf c.in-Leaf.id.0 (layer_of n) under) c.args.pieces.now.items new in
    subst P (sym new_is) (leaf_added deep colours band c.args.level c.in-Leaf.id.0 n under c.args.pieces.now.items mid
    (omega (arith, low)) is))

pub returns-then-not-node-clause-added : goal.returns-then-not-node-clause-added
returns-then-not-node-clause-added g t c =
    rw (← c.in-Group.ensures.parts) (λ deep colours band low right.
    let under = nodes_of c.in-Group.under in
    let children = nodes_of c.in-Group.children in
    let n = c.in-Group.node.now in
    hidden_added deep colours band c.args.level c.in-Group.id.0 n children under c.args.pieces.now.items
    c.add_stack-in-Group.new.pieces.items c.if-not-node.true
    (c.in_ok-some_under-in-Group.ensures.added deep colours band (omega (arith, low)) right.1.1))

pub returns-in-Some-clause-added : goal.returns-in-Some-clause-added
returns-in-Some-clause-added g t c =
    rw (← c.in-Group.ensures.parts) (λ deep colours band low right.
    let under = nodes_of c.in-Group.under in
    let children = nodes_of c.in-Group.children in
    let n = c.in-Group.node.now in
    let old = c.args.pieces.now.items in
    let mid = c.add_stack-in-Group.new.pieces.items in
    let bytes = c.in-Some.picture.now in
    let inner = c.add_clean.new.pieces.items in
    let is : AreAdded deep colours band c.args.level under old mid =
    c.in_ok-some_under-in-Group.ensures.added deep colours band (omega (arith, low)) right.1.1 in
    let Q : List Piece → Type 0 = λ new. AreAdded deep colours band (c.args.level + 1) children mid new in
    let in_it : AreAdded deep colours band (c.args.level + 1) children mid inner =
    subst Q (sym c.in_ok-add_clean-in-Group.ensures)
    (clean_added deep colours band (c.args.level + 1) children mid bytes (omega (arith, low))
    (right.0 bytes (sym c.in-Some.ensures))) in
    let new_is : c.add_over.new.pieces.items ≡ inner ++ stack_piece c.args.level (any_visible under) n ∷ [] =
    c.in_ok-add_over-in-Group.ensures ∙ ap (λ b. inner
    ++ stack_piece c.args.level b n ∷ []) c.in_ok-some_under-in-Group.ensures.any in
    let P : List Piece → Type 0 = λ new.
    AreAdded deep colours band c.args.level (group c.in-Group.id.0 (group_of n) children under) old new in
    subst P (sym new_is) (group_added deep colours band c.args.level c.in-Group.id.0 n children under old mid inner
    (omega (arith, low)) c.if-not-node.false is in_it))

pub returns-in_ok-add_over-in-Group-2-clause-added : goal.returns-in_ok-add_over-in-Group-2-clause-added
returns-in_ok-add_over-in-Group-2-clause-added g t c =
    rw (← c.in-Group.ensures.parts) (λ deep colours band low right.
    let under = nodes_of c.in-Group.under in
    let children = nodes_of c.in-Group.children in
    let n = c.in-Group.node.now in
    let old = c.args.pieces.now.items in
    let mid = c.add_stack-in-Group.new.pieces.items in
    let inner = c.add_stack-in-Group-2.new.pieces.items in
    let is : AreAdded deep colours band c.args.level under old mid =
    c.in_ok-some_under-in-Group.ensures.added deep colours band (omega (arith, low)) right.1.1 in
    let in_it : AreAdded deep colours band (c.args.level + 1) children mid inner =
    c.in_ok-add_stack-in-Group.ensures.added deep colours band (omega (arith, low)) right.1.0 in
    let new_is : c.add_over-in-Group.new.pieces.items ≡ inner ++ stack_piece c.args.level (any_visible under) n ∷ [] =
    c.in_ok-add_over-in-Group-2.ensures ∙ ap (λ b. inner
    ++ stack_piece c.args.level b n ∷ []) c.in_ok-some_under-in-Group.ensures.any in
    let P : List Piece → Type 0 = λ new.
    AreAdded deep colours band c.args.level (group c.in-Group.id.0 (group_of n) children under) old new in
    subst P (sym new_is) (group_added deep colours band c.args.level c.in-Group.id.0 n children under old mid inner
    (omega (arith, low)) c.if-not-node.false is in_it))

pub returns-in_ok-add_blank-in-Empty-clause-cost : goal.returns-in_ok-add_blank-in-Empty-clause-cost
returns-in_ok-add_blank-in-Empty-clause-cost g t c =
    rw (← c.in-Empty.ensures.parts) (blank_weighs c.args.level c.args.pieces.now.items c.add_blank.new.pieces.items
    c.in_ok-add_blank-in-Empty.ensures)

pub returns-then-node-clause-cost : goal.returns-then-node-clause-cost
returns-then-node-clause-cost g t c =
    rw (← c.in-Leaf.ensures.parts) (leaf_weighs c.args.level _ c.in-Leaf.node.now c.args.pieces.now.items
    c.add_stack.new.pieces.items c.add_leaf.new.pieces.items _
    c.in_ok-some_under-in-Leaf.ensures.cost c.in_ok-add_leaf-in-Leaf.ensures)

pub returns-in-Some-clause-cost : goal.returns-in-Some-clause-cost
returns-in-Some-clause-cost g t c =
    rw (← c.in-Group.ensures.parts) (given_weighs c.args.level _ c.in-Group.node.now c.args.pieces.now.items
    c.add_stack-in-Group.new.pieces.items c.add_clean.new.pieces.items c.add_over.new.pieces.items
    c.in-Some.picture.now _ _ _ c.if-not-node.false
    (sym c.in-Some.ensures) c.in_ok-some_under-in-Group.ensures.cost c.in_ok-add_clean-in-Group.ensures
    c.in_ok-add_over-in-Group.ensures)

pub returns-in_ok-add_over-in-Group-2-clause-cost : goal.returns-in_ok-add_over-in-Group-2-clause-cost
returns-in_ok-add_over-in-Group-2-clause-cost g t c =
    rw (← c.in-Group.ensures.parts) (group_weighs c.args.level _ c.in-Group.node.now c.args.pieces.now.items
    c.add_stack-in-Group.new.pieces.items c.add_stack-in-Group-2.new.pieces.items
    c.add_over-in-Group.new.pieces.items _ _ _ c.if-not-node.false
    (sym c.in_default.ensures) c.in_ok-some_under-in-Group.ensures.cost c.in_ok-add_stack-in-Group.ensures.cost
    c.in_ok-add_over-in-Group-2.ensures)
