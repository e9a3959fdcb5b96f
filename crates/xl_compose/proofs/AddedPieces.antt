-- The pieces of a node behind those of the nodes under it.
use Rattle.std.proofs.Common.{◌≡◌, ℕ, ◌+◌, ◌<◌, Bool, true, false, cond, List, [], ◌∷◌, ◌++◌, refl, sym, ◌∙◌, ap}
use Rattle.std.proofs.Common.{subst, arith, append-nil}
use Rattle.spec_document.specs.Forest.{none, leaf, group}
use Rattle.spec_document.specs.declared.Pixel.{Pixel}
use Rattle.spec_document.specs.Over.{over}
use Rattle.spec_document.specs.Document.{Nodes}
use Rattle.spec_document.specs.Source.{faded, layer_source}
use Rattle.spec_document.specs.Picture.{any_visible, mode_above, laid, stack_pixel}
use Rattle.xl_doc.specs.declared.node.Node.{Node}
use Rattle.xl_doc.specs.Nodes.{layer_of, group_of, sheet_of}
use Rattle.xl_compose.specs.declared.pieces.Piece.{Piece}
use Rattle.xl_compose.specs.declared.pieces.What.TheVariants.{Blank, Leaf, Clean, Stack}
use Rattle.xl_compose.specs.declared.span.Band.{Band}
use Rattle.xl_compose.specs.Cost.{visible_in, one_if, visible_with}
use Rattle.xl_compose.specs.Neat.{IsNeat}
use Rattle.xl_compose.specs.Pieces.{IsKept, shown}
use Rattle.xl_compose.specs.Added.{AreAdded, IsPicture}
use Rattle.xl_compose.specs.NodePieces.{blank_piece, clean_piece, leaf_pieces, stack_piece}
use Rattle.xl_compose.proofs.StackRows.{stack_neat}
use Rattle.xl_compose.proofs.PieceRuns.{fit-push, shown-beside, shown-own, weights-push}

module _ (deep : ℕ) (colours : List (List ℕ)) (band : Band) where
  -- no node
  pub blank_added : (level : ℕ) (old : List Piece) → level + 1 < deep
      → AreAdded deep colours band level none old (old ++ blank_piece level ∷ [])
  blank_added level old low = record {
    fit = λ all. fit-push deep band old (blank_piece level) (low, tt) all;
    cost = omega (arith, weights-push old (blank_piece level));
    here = λ v k hv hk. shown-own colours band v k old level Blank;
    below = λ v k l hv hk under. shown-beside colours band v k old level Blank l (λ e. omega (arith, e, under));
  }

  -- a picture in place of the pieces of its nodes
  pub clean_added : (level : ℕ) (nodes : Nodes) (old : List Piece) (bytes : List ℕ) → level + 1 < deep
      → IsPicture colours band nodes bytes
      → AreAdded deep colours band level nodes old (old ++ clean_piece level bytes ∷ [])
  clean_added level nodes old bytes low is =
      let kept : IsKept band bytes = record {
        size = is.size;
        neat = λ v k hv hk. let P : Pixel → Type 0 = IsNeat in
            subst P (sym (is.each v k hv hk)) (stack_neat colours (band.x + k) (band.y + v) nodes);
      } in
      record {
        fit = λ all. fit-push deep band old (clean_piece level bytes) (low, kept) all;
        cost = omega (arith, weights-push old (clean_piece level bytes));
        here = λ v k hv hk. shown-own colours band v k old level (Clean bytes) ∙ is.each v k hv hk;
        below = λ v k l hv hk under. shown-beside colours band v k old level (Clean bytes) l (λ e. omega (arith, e, under));
      }

  shown_leaf : (level id : ℕ) (n : Node) (under : Nodes) (old mid : List Piece) → level + 1 < deep → n.visible ≡ true
      → AreAdded deep colours band level under old mid
      → AreAdded deep colours band level (leaf id (layer_of n) under) old
      (mid ++ record { level = level; what = Leaf (mode_above (any_visible under) n.mode) n.opacity (sheet_of n.body) } ∷ [])
  shown_leaf level id n under old mid low visible is =
      let what = Leaf (mode_above (any_visible under) n.mode) n.opacity (sheet_of n.body) in
      let p : Piece = record { level = level; what = what } in
      record {
        fit = λ all. fit-push deep band mid p (low, tt) (is.fit all);
        cost = let one : one_if n.visible ≡ 1 = ap one_if visible in omega (arith, weights-push mid p, is.cost, one);
        here = λ v k hv hk.
            let source = layer_source colours (layer_of n) (band.x + k) (band.y + v) in
            shown-own colours band v k mid level what
            ∙ (ap (λ q. over (mode_above (any_visible under) n.mode) q source) (is.here v k hv hk)
            ∙ ap (λ b. laid b (mode_above (any_visible under) n.mode) (stack_pixel colours (band.x + k) (band.y + v) under) source)
            (sym visible));
        below = λ v k l hv hk beneath. shown-beside colours band v k mid level what l (λ e. omega (arith, e, beneath))
            ∙ is.below v k l hv hk beneath;
      }

  hidden_leaf : (level id : ℕ) (n : Node) (under : Nodes) (old mid : List Piece) → n.visible ≡ false
      → AreAdded deep colours band level under old mid → AreAdded deep colours band level (leaf id (layer_of n) under) old mid
  hidden_leaf level id n under old mid hidden is = record {
    fit = is.fit;
    cost = omega (arith, is.cost);
    here = λ v k hv hk.
        is.here v k hv hk
        ∙ ap (λ b. laid b (mode_above (any_visible under) n.mode) (stack_pixel colours (band.x + k) (band.y + v) under)
        (layer_source colours (layer_of n) (band.x + k) (band.y + v))) (sym hidden);
    below = is.below;
  }

  leaf_by : (b : Bool) (level id : ℕ) (n : Node) (under : Nodes) (old mid : List Piece) → level + 1 < deep → n.visible ≡ b
      → AreAdded deep colours band level under old mid
      → AreAdded deep colours band level (leaf id (layer_of n) under) old
      (mid ++ cond b (record { level = level; what = Leaf (mode_above (any_visible under) n.mode) n.opacity (sheet_of n.body) }
      ∷ []) [])
  leaf_by true level id n under old mid low e is = shown_leaf level id n under old mid low e is
  leaf_by false level id n under old mid low e is =
      subst (λ (new : List Piece). AreAdded deep colours band level (leaf id (layer_of n) under) old new) (sym (append-nil mid))
      (hidden_leaf level id n under old mid e is)

  -- a layer
  pub leaf_added : (level id : ℕ) (n : Node) (under : Nodes) (old mid : List Piece) → level + 1 < deep
      → AreAdded deep colours band level under old mid
      → AreAdded deep colours band level (leaf id (layer_of n) under) old (mid ++ leaf_pieces level (any_visible under) n)
  leaf_added level id n under old mid low is = leaf_by n.visible level id n under old mid low refl is

  -- a group that is not shown
  pub hidden_added : (level id : ℕ) (n : Node) (children under : Nodes) (old mid : List Piece) → n.visible ≡ false
      → AreAdded deep colours band level under old mid
      → AreAdded deep colours band level (group id (group_of n) children under) old mid
  hidden_added level id n children under old mid hidden is = record {
    fit = is.fit;
    cost = omega (arith, is.cost);
    here = λ v k hv hk.
        is.here v k hv hk
        ∙ ap (λ b. laid b (mode_above (any_visible under) n.mode) (stack_pixel colours (band.x + k) (band.y + v) under)
        (faded n.opacity (stack_pixel colours (band.x + k) (band.y + v) children))) (sym hidden);
    below = is.below;
  }

  -- a group whose picture is at the next level
  pub group_added : (level id : ℕ) (n : Node) (children under : Nodes) (old mid inner : List Piece) → level + 1 < deep
      → n.visible ≡ true
      → AreAdded deep colours band level under old mid → AreAdded deep colours band (level + 1) children mid inner
      → AreAdded deep colours band level (group id (group_of n) children under) old (inner
      ++ stack_piece level (any_visible under) n ∷ [])
  group_added level id n children under old mid inner low visible is in_it =
      let mode = mode_above (any_visible under) n.mode in
      let what = Stack mode n.opacity in
      let p = stack_piece level (any_visible under) n in
      record {
        fit = λ all. fit-push deep band inner p (low, tt) (in_it.fit (is.fit all));
        cost = let some : visible_with n.visible (visible_in children) ≡ 1 + visible_in children =
            ap (λ b. visible_with b (visible_in children)) visible in
            omega (arith, weights-push inner p, is.cost, in_it.cost, some);
        here = λ v k hv hk.
            let below = stack_pixel colours (band.x + k) (band.y + v) under in
            let above = stack_pixel colours (band.x + k) (band.y + v) children in
            shown-own colours band v k inner level what
            ∙ (ap (λ q. over mode q (faded n.opacity (shown colours band v k inner (level + 1))))
            (in_it.below v k level hv hk (omega arith) ∙ is.here v k hv hk)
            ∙ (ap (λ q. over mode below (faded n.opacity q)) (in_it.here v k hv hk)
            ∙ ap (λ b. laid b mode below (faded n.opacity above)) (sym visible)));
        below = λ v k l hv hk beneath.
            shown-beside colours band v k inner level what l (λ e. omega (arith, e, beneath))
            ∙ (in_it.below v k l hv hk (omega (arith, beneath)) ∙ is.below v k l hv hk beneath);
      }
