-- A node that is put last in a group.
use Rattle.std.proofs.Common.{◌≡◌, ℕ, ◌+◌, ◌<◌, ◌≤◌, Bool, true, false, List, [], ◌∷◌, length, refl, sym, ◌∙◌, ap, arith}
use Rattle.std.specs.Prelude.{Option, Some, None, option_map}
use Rattle.std.specs.List.{insert}
use Rattle.spec_document.specs.Forest.{Forest, none, size, levels}
use Rattle.spec_document.specs.Changes.{put_last}
use Rattle.spec_document.specs.Holes.{Hole, plug, depth, passed}
use Rattle.spec_document.proofs.Holes.{hole_last, plug-hole_last, depth-hole_last, put_last-hole, size-plug, levels-plug}
use Rattle.spec_document.proofs.Holes.{passed_within}
use Rattle.xl_tree.specs.declared.entries.NodeEntry.{NodeEntry}
use Rattle.xl_tree.specs.Flat.{flat, forest_of}
use Rattle.xl_tree.specs.Kept.{AreSiblings}
use Rattle.xl_tree.specs.Places.{end_at, alone}
use Rattle.xl_tree.proofs.Flat.{forest_of_is}
use Rattle.xl_tree.proofs.FlatHoles.{entry_of, insert-plug}
use Rattle.xl_tree.proofs.Paths.{end_at-hole}
use Rattle.xl_tree.proofs.Taken.{siblings}
use Rattle.spec_document.specs.declared.TheConstants.{MAX_NODES}

module _ {N : Type 0} where
  pub flat-alone : (level id : ℕ) (mark : Bool) (node : N) → flat level (alone mark id node) ≡ entry_of level id mark node ∷ []
  flat-alone level id true node = refl
  flat-alone level id false node = refl

  pub size-alone : (id : ℕ) (mark : Bool) (node : N) → size (alone mark id node) ≡ 1
  size-alone id true node = refl
  size-alone id false node = refl

  pub levels-alone : (id : ℕ) (mark : Bool) (node : N) → levels (alone mark id node) ≡ 1
  levels-alone id true node = refl
  levels-alone id false node = refl

  hole_from_end : (path : List ℕ) (f : Forest N N) (at : ℕ) (o : Option (Hole N N)) → option_map passed o ≡ Some at
      → (h : Hole N N) × (o ≡ Some h) × (passed h ≡ at)
  hole_from_end path f at None e = cc
  hole_from_end path f at (Some h) e = (h, refl, cc)

  -- the place is among the entries
  pub end_within : (path : List ℕ) (f : Forest N N) (at : ℕ) → end_at path f ≡ Some at → at ≤ size f
  end_within path f at e =
      let m = hole_from_end path f at (hole_last path f) (sym (end_at-hole path f) ∙ e) in
      omega (arith, passed_within m.0 none, m.2, ap size (plug-hole_last path f m.0 m.1))

  pub record PutLast (path : List ℕ) (branch f : Forest N N) (new : List (NodeEntry N)) : Type 0 where
    pub view : put_last path branch f ≡ Some (forest_of new)
    pub siblings : AreSiblings 0 new

  pub put_last_entry : (path : List ℕ) (es new : List (NodeEntry N)) (f : Forest N N) (at id : ℕ) (mark : Bool) (node : N)
      → AreSiblings 0 es → forest_of es ≡ f → end_at path f ≡ Some at → length path < 8 → size f < MAX_NODES
      → new ≡ insert es at (entry_of (length path) id mark node) → PutLast path (alone mark id node) f new
  put_last_entry path es new f at id mark node s is e short few new_is =
      let b : Forest N N = alone mark id node in
      let m = hole_from_end path f at (hole_last path f) (sym (end_at-hole path f) ∙ e) in
      let h : Hole N N = m.0 in
      let hole_is : plug h none ≡ f = plug-hole_last path f h m.1 in
      let deep : depth h ≡ length path = depth-hole_last path f h m.1 in
      let one : flat (0 + depth h) b ≡ entry_of (length path) id mark node ∷ [] =
      ap (λ l. flat l b) (omega (arith, deep)) ∙ flat-alone (length path) id mark node in
      let es_is : es ≡ flat 0 (plug h none) = s.flat_is ∙ ap (flat 0) (is ∙ sym hole_is) in
      let new_flat : new ≡ flat 0 (plug h b) =
      new_is ∙ ((λ i. insert (es_is i) (sym m.2 i) (entry_of (length path) id mark node))
      ∙ insert-plug 0 h (entry_of (length path) id mark node) b one) in
      let new_size : size (plug h b) ≤ MAX_NODES =
      omega (arith, few, size-plug h none b, size-alone id mark node, ap size hole_is) in
      let low : 0 + levels (plug h b) ≤ 8 =
      omega (arith, s.low, short, deep, levels-plug h none b, levels-alone id mark node, ap levels hole_is, ap levels is) in
      record {
        view =
            put_last-hole path b f ∙ (ap (option_map (λ x. plug x b)) m.1 ∙ ap Some (sym (forest_of_is 0 new (plug h b) new_flat)));
        siblings = siblings 0 new (plug h b) new_flat new_size low;
      }
