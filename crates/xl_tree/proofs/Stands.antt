-- The nodes of a stack among the entries, and the slot at a place of it.
use Rattle.std.proofs.Common.{◌≡◌, ℕ, suc, ◌+◌, ◌-◌, true, false, cond, nat_eq, List, ◌∷◌, ◌++◌, length, take, refl}
use Rattle.std.proofs.Common.{sym, ◌∙◌, subst, ap, eq-eqb, arith, length-append}
use Rattle.std.proofs.lemmas.Bool.{ne_eqb}
use Rattle.std.specs.Prelude.{Some, None, option_map, unwrap_or}
use Rattle.xl_tree.specs.Places.{first_some}
use Rattle.std.specs.List.{IsDistinct}
use Rattle.spec_document.specs.Forest.{Forest, group, size, count, ids, find, stack_at, children_of}
use Rattle.spec_document.specs.Changes.{above, put_at, with_children}
use Rattle.spec_document.specs.Holes.{Hole, here, in_group, plug, depth, passed, from_place}
use Rattle.spec_document.proofs.Holes.{into, plug-into, depth-into, passed-into, hole_at, plug-hole_at, depth-hole_at}
use Rattle.spec_document.proofs.Holes.{passed-hole_at, put_at-hole}
use Rattle.spec_document.proofs.Standing.{Standing, nowhere, at_leaf, at_group, standing, find-at_group}
use Rattle.spec_document.proofs.Distinct.{lone_group, with_children-at_group}
use Rattle.xl_tree.specs.declared.entries.NodeEntry.{NodeEntry}
use Rattle.xl_tree.specs.Flat.{flat, below, forest_of, from_id}
use Rattle.xl_tree.specs.Kept.{AreSiblings}
use Rattle.xl_tree.specs.Refusals.{no_stack, no_group, past, put_refusal, bad_place}
use Rattle.xl_tree.specs.Slots.{IsStackAt, IsSlot}
use Rattle.xl_tree.proofs.FlatHoles.{entry_of, front, back, flat-plug, length-front}
use Rattle.xl_tree.proofs.Search.{from_id-nowhere, from_id-leaf, from_id-group, found_group}

module _ {N : Type 0} where
  -- the top
  pub top_stands : (stack : ℕ) (f nodes : Forest N N) → stack ≡ 0 → nodes ≡ f → IsStackAt stack f nodes 0 0
  top_stands stack f nodes z is = record {
    hole = here;
    forest_is = sym is;
    at_is = refl;
    level_is = refl;
    stack_is = ap (λ b. cond b (Some f) (children_of (find stack f))) (eq-eqb stack 0 z) ∙ ap Some (sym is);
    change_is = λ change. ap (λ b. cond b (change f) (with_children stack change f)) (eq-eqb stack 0 z) ∙ ap change (sym is);
  }

  -- the children of a group
  pub group_stands : (id : ℕ) (es : List (NodeEntry N)) (f nodes : Forest N N) (e : NodeEntry N) (rest inside : List (NodeEntry N))
      → (id ≡ 0 → ⊥) → AreSiblings 0 es → forest_of es ≡ f → IsDistinct nat_eq (ids f) → from_id id es ≡ e ∷ rest → e.group ≡ true
      → inside ≡ take (below e.level rest) rest → nodes ≡ forest_of inside
      → IsStackAt id f nodes (length es - length rest) (e.level + 1)
  group_stands id es f nodes e rest inside ne s view_is distinct some_is mark inside_at nodes_is = from (standing id f) where
    flat_at : es ≡ flat 0 f
    flat_at = s.flat_is ∙ ap (flat 0) view_is

    all : from_id id (flat 0 f) ≡ e ∷ rest
    all = ap (from_id id) (sym flat_at) ∙ some_is

    from : Standing id f → IsStackAt id f nodes (length es - length rest) (e.level + 1)
    from (nowhere n) = let k = sym (from_id-nowhere id f n) ∙ all in cc
    from (at_leaf h w u is fresh) =
        let k = sym (from_id-leaf id f h w u is fresh) ∙ all in
        let first : entry_of (depth h) id false w ≡ e = cc in
        let wrong : false ≡ true = ap (λ x. x.group) first ∙ mark in
        cc
    from (at_group h w c u is fresh) =
        let k = sym (from_id-group id f h w c u is fresh) ∙ all in
        let first : entry_of (depth h) id true w ≡ e = cc in
        let found = sym (ap (find id) is ∙ find-at_group id h w c u fresh)
        ∙ (found_group id es f e rest inside s view_is some_is mark inside_at).found in
        let c_is : c ≡ forest_of inside = cc in
        let nodes_c : nodes ≡ c = nodes_is ∙ sym c_is in
        let l = lone_group id h w c u (let P : Forest N N → Type 0 = λ x. IsDistinct nat_eq (ids x) in subst P is distinct) in
        let hole : Hole N N = into h (in_group id w here u) in
        let length_is : length es ≡ passed h + length (e ∷ rest) =
        ap length (flat_at ∙ (ap (flat 0) is ∙ flat-plug 0 h (group id w c u)))
        ∙ omega (
          arith,
          length-append (front 0 h) (flat (0 + depth h) (group id w c u) ++ back 0 h),
          length-front 0 h,
          ap length next_is,
        ) in
        record {
          hole = hole;
          forest_is = is ∙ (ap (λ x. plug h (group id w x u)) (sym nodes_c) ∙ sym (plug-into h (in_group id w here u) nodes));
          at_is = omega (arith, passed-into h (in_group id w here u), length_is);
          level_is = omega (arith, depth-into h (in_group id w here u), ap (λ x. x.level) first);
          stack_is = ap (λ b. cond b (Some f) (children_of (find id f))) (ne_eqb id 0 ne)
              ∙ (ap children_of (ap (find id) is ∙ find-at_group id h w c u fresh) ∙ ap Some (sym nodes_c));
          change_is = λ change. ap (λ b. cond b (change f) (with_children id change f)) (ne_eqb id 0 ne)
              ∙ (ap (with_children id change) is
              ∙ (with_children-at_group id change h w c u fresh l
              ∙ (ap (λ x. plug h (group id w (change x) u)) (sym nodes_c)
              ∙ sym (plug-into h (in_group id w here u) (change nodes)))));
        } where
          z : 0 + depth h ≡ depth h
          z = omega arith

          next_is : flat (0 + depth h) (group id w c u) ++ back 0 h ≡ e ∷ rest
          next_is = ap (λ l. entry_of l id true w ∷ ((flat (suc l) c ++ flat l u) ++ back 0 h)) z
              ∙ (sym (from_id-group id f h w c u is fresh) ∙ all)

  -- where no node, or no group, was found
  pub none_stands : (id : ℕ) (f : Forest N N) → (id ≡ 0 → ⊥) → no_stack id f ≡ no_group id (find id f)
  none_stands id f ne = ap (λ b. cond b None (no_group id (find id f))) (ne_eqb id 0 ne)

  pub top_refuses : (id : ℕ) (f : Forest N N) → id ≡ 0 → no_stack id f ≡ None
  top_refuses id f z = ap (λ b. cond b None (no_group id (find id f))) (eq-eqb id 0 z)

  -- the slot at a place
  pub slot_from : (stack place : ℕ) (f nodes : Forest N N) (at level before : ℕ) → IsStackAt stack f nodes at level
      → before ≡ size nodes - size (from_place place nodes) → IsSlot stack place f (at + before) level
  slot_from stack place f nodes at level before s before_is = record {
    hole = into s.hole (hole_at place nodes);
    under = from_place place nodes;
    forest_is = s.forest_is ∙ (ap (plug s.hole) (sym (plug-hole_at place nodes))
        ∙ sym (plug-into s.hole (hole_at place nodes) (from_place place nodes)));
    at_is = omega (arith, s.at_is, passed-into s.hole (hole_at place nodes), passed-hole_at place nodes);
    level_is = omega (arith, s.level_is, depth-into s.hole (hole_at place nodes), depth-hole_at place nodes);
    put_is = λ branch. s.change_is (put_at branch place)
        ∙ (ap (plug s.hole) (put_at-hole branch place nodes)
        ∙ sym (plug-into s.hole (hole_at place nodes) (above branch (from_place place nodes))));
  }

  -- the place in a stack that is there
  pub place_refuses : (stack place : ℕ) (f nodes : Forest N N) → no_stack stack f ≡ None → stack_at stack f ≡ Some nodes
      → put_refusal stack place f ≡ past place (count nodes)
  place_refuses stack place f nodes is_there at =
      ap (λ o. first_some o (bad_place stack place f)) is_there
      ∙ ap (λ o. past place (unwrap_or (option_map count o) 0)) at
