-- A node at its place among the entries, and another in its stead.
use Rattle.std.proofs.Common.{◌≡◌, ℕ, suc, ◌+◌, ◌<◌, ◌≤◌, Bool, true, false, cond, eqb, nat_eq, List, ◌∷◌, ◌++◌}
use Rattle.std.proofs.Common.{length, get_or, set, refl, sym, ◌∙◌, subst, ap, eq-eqb, arith}
use Rattle.std.proofs.lemmas.List.{get_or_at, set_at}
use Rattle.std.specs.Prelude.{Some, None, option_map}
use Rattle.std.specs.List.{IsDistinct}
use Rattle.spec_document.specs.Forest.{Forest, none, leaf, group, size, levels, ids, nothing, find}
use Rattle.spec_document.specs.Changes.{with_group}
use Rattle.spec_document.specs.Holes.{Hole, here, under_leaf, under_group, in_group, plug, depth, passed}
use Rattle.spec_document.proofs.Holes.{size-plug, levels-plug, passed_within, depth_below_levels}
use Rattle.spec_document.proofs.Standing.{Fresh, Standing, nowhere, at_leaf, at_group, standing, lacks_leaf, lacks_group}
use Rattle.spec_document.proofs.Standing.{find-at_leaf, find-at_group}
use Rattle.spec_document.proofs.Distinct.{lone_leaf, lone_group, with_leaf-at_leaf, with_leaf-at_group}
use Rattle.spec_document.proofs.Distinct.{with_group-at_leaf, with_group-at_group}
use Rattle.xl_tree.specs.declared.entries.NodeEntry.{NodeEntry}
use Rattle.xl_tree.specs.Flat.{flat, forest_of}
use Rattle.xl_tree.specs.Kept.{AreSiblings}
use Rattle.xl_tree.specs.Places.{place_of, first_some}
use Rattle.xl_tree.specs.Reads.{node_of}
use Rattle.xl_tree.specs.Refusals.{no_node}
use Rattle.xl_tree.specs.declared.refused.TreeRefused.TheVariants.{NoNode}
use Rattle.xl_tree.specs.Writes.{with_node}
use Rattle.xl_tree.proofs.Flat.{forest_of_is, size-forest_of}
use Rattle.xl_tree.proofs.FlatHoles.{entry_of, front, back, flat-plug, length-front}
use Rattle.xl_tree.proofs.Taken.{siblings}

module _ {L G : Type 0} where
  place_of-nowhere : (id : ℕ) (f : Forest L G) → find id f ≡ nothing → place_of id f ≡ None
  place_of-nowhere id none n = refl
  place_of-nowhere id (leaf i w u) n =
      let l = lacks_leaf w (find id u) (eqb id i) n in
      ap (λ b. cond b (Some 0) (option_map (λ k. 1 + k) (place_of id u))) l.0
      ∙ ap (option_map (λ k. 1 + k)) (place_of-nowhere id u l.1)
  place_of-nowhere id (group i w c u) n =
      let l = lacks_group w c (find id c) (find id u) (eqb id i) n in
      ap (λ b. cond b (Some 0) (first_some (option_map (λ k. 1 + k) (place_of id c))
      (option_map (λ k. 1 + size c + k) (place_of id u)))) l.0
      ∙ (λ j. first_some (option_map (λ k. 1 + k) (place_of-nowhere id c l.1 j))
      (option_map (λ k. 1 + size c + k) (place_of-nowhere id u l.2 j)))

  pub place_of-plug : (id : ℕ) (h : Hole L G) (f : Forest L G) → Fresh id h → place_of id f ≡ Some 0
      → place_of id (plug h f) ≡ Some (passed h)
  place_of-plug id here f fresh top = top
  place_of-plug id (under_leaf i w h) f fresh top =
      ap (λ b. cond b (Some 0) (option_map (λ k. 1 + k) (place_of id (plug h f)))) fresh.0
      ∙ ap (option_map (λ k. 1 + k)) (place_of-plug id h f fresh.1 top)
  place_of-plug id (under_group i w c h) f fresh top =
      ap (λ b. cond b (Some 0) (first_some (option_map (λ k. 1 + k) (place_of id c))
      (option_map (λ k. 1 + size c + k) (place_of id (plug h f))))) fresh.0
      ∙ (λ j. first_some (option_map (λ k. 1 + k) (place_of-nowhere id c fresh.1 j))
      (option_map (λ k. 1 + size c + k) (place_of-plug id h f fresh.2 top j)))
  place_of-plug id (in_group i w h u) f fresh top =
      ap (λ b. cond b (Some 0) (first_some (option_map (λ k. 1 + k) (place_of id (plug h f)))
      (option_map (λ k. 1 + size (plug h f) + k) (place_of id u)))) fresh.0
      ∙ (λ j. first_some (option_map (λ k. 1 + k) (place_of-plug id h f fresh.1 top j))
      (option_map (λ k. 1 + size (plug h f) + k) (place_of id u)))

  place_of-leaf : (id : ℕ) (w : L) (u : Forest L G) → place_of id (leaf id w u) ≡ Some 0
  place_of-leaf id w u = ap (λ b. cond b (Some 0) (option_map (λ k. 1 + k) (place_of id u))) (eq-eqb id id refl)

  place_of-group : (id : ℕ) (w : G) (c u : Forest L G) → place_of id (group id w c u) ≡ Some 0
  place_of-group id w c u =
      ap (λ b. cond b (Some 0) (first_some (option_map (λ k. 1 + k) (place_of id c))
      (option_map (λ k. 1 + size c + k) (place_of id u)))) (eq-eqb id id refl)

  -- a place leads to a leaf or a group in its hole
  pub data Spot (id place : ℕ) (f : Forest L G) : Type 0 where
    a_leaf_at : (h : Hole L G) (w : L) (u : Forest L G) → f ≡ plug h (leaf id w u) → Fresh id h → passed h ≡ place → Spot id place f
    a_group_at : (h : Hole L G) (w : G) (c u : Forest L G) → f ≡ plug h (group id w c u) → Fresh id h → passed h ≡ place
        → Spot id place f

  pub spot : (id place : ℕ) (f : Forest L G) → place_of id f ≡ Some place → Spot id place f
  spot id place f e = from (standing id f) where
    from : Standing id f → Spot id place f
    from (nowhere n) = let k = sym (place_of-nowhere id f n) ∙ e in cc
    from (at_leaf h w u is fresh) =
        let k = sym (ap (place_of id) is ∙ place_of-plug id h (leaf id w u) fresh (place_of-leaf id w u)) ∙ e in
        a_leaf_at h w u is fresh (cc)
    from (at_group h w c u is fresh) =
        let k = sym (ap (place_of id) is ∙ place_of-plug id h (group id w c u) fresh (place_of-group id w c u)) ∙ e in
        a_group_at h w c u is fresh (cc)

  pub nothing_placed : (id : ℕ) (f : Forest L G) → place_of id f ≡ None → find id f ≡ nothing
  nothing_placed id f e = from (standing id f) where
    from : Standing id f → find id f ≡ nothing
    from (nowhere n) = n
    from (at_leaf h w u is fresh) =
        let k = sym (ap (place_of id) is ∙ place_of-plug id h (leaf id w u) fresh (place_of-leaf id w u)) ∙ e in cc
    from (at_group h w c u is fresh) =
        let k = sym (ap (place_of id) is ∙ place_of-plug id h (group id w c u) fresh (place_of-group id w c u)) ∙ e in cc

  pub place_within : (id place : ℕ) (f : Forest L G) → place_of id f ≡ Some place → place < size f
  place_within id place f e = from (spot id place f e) where
    from : Spot id place f → place < size f
    from (a_leaf_at h w u is fresh at) = omega (arith, at, passed_within h (leaf id w u), ap size is)
    from (a_group_at h w c u is fresh at) = omega (arith, at, passed_within h (group id w c u), ap size is)

module _ {N : Type 0} where
  -- the entry at the place, with another node in it
  abbrev pub rewritten : NodeEntry N → N → NodeEntry N
  rewritten e w = record { id = e.id; level = e.level; group = e.group; node = w }

  pub record Written (id : ℕ) (f : Forest N N) (e : NodeEntry N) (w : N) (new : List (NodeEntry N)) : Type 0 where
    pub value : node_of (find id f) ≡ Some e.node
    pub view : forest_of new ≡ with_node id w f
    pub siblings : AreSiblings 0 new

  pub written : (id place : ℕ) (es : List (NodeEntry N)) (f : Forest N N) (e : NodeEntry N) (w : N) → AreSiblings 0 es → forest_of es ≡ f
      → place_of id f ≡ Some place → IsDistinct nat_eq (ids f) → e ≡ get_or es place e
      → Written id f e w (set es place (rewritten e w))
  written id place es f e w s view_is at_place distinct e_is = from (spot id place f at_place) where
    made : (h : Hole N N) (old new : Forest N N) (mark : Bool) (v : N) (tail : List (NodeEntry N)) → f ≡ plug h old → passed h ≡ place →
        flat (0 + depth h) old ++ back 0 h ≡ entry_of (0 + depth h) id mark v ∷ tail
        → flat (0 + depth h) new ++ back 0 h ≡ entry_of (0 + depth h) id mark w ∷ tail →
        levels new ≡ levels old → size new ≡ size old → node_of (find id f) ≡ Some v → with_node id w f ≡ plug h new
        → Written id f e w (set es place (rewritten e w))
    made h old new mark v tail is at old_is new_is same_levels same_size found change =
        let split : es ≡ front 0 h ++ (entry_of (0 + depth h) id mark v ∷ tail) =
        s.flat_is ∙ (ap (flat 0) (view_is ∙ is) ∙ (flat-plug 0 h old ∙ ap (λ x. front 0 h ++ x) old_is)) in
        let here_is : length (front 0 h) ≡ place = length-front 0 h ∙ at in
        let entry_is : e ≡ entry_of (0 + depth h) id mark v =
        e_is ∙ (ap (λ x. get_or x place e) split ∙ get_or_at (front 0 h) (entry_of (0 + depth h) id mark v) tail e place here_is) in
        let new_flat : set es place (rewritten e w) ≡ flat 0 (plug h new) =
        (λ i. set (split i) place (rewritten (entry_is i) w))
        ∙ (set_at (front 0 h) (entry_of (0 + depth h) id mark v) tail (entry_of (0 + depth h) id mark w) place here_is
        ∙ sym (flat-plug 0 h new ∙ ap (λ x. front 0 h ++ x) new_is)) in
        record {
          value = found ∙ ap (λ x. Some x.node) (sym entry_is);
          view = forest_of_is 0 (set es place (rewritten e w)) (plug h new) new_flat ∙ sym change;
          siblings = siblings 0 (set es place (rewritten e w)) (plug h new) new_flat
              (omega (arith, s.few, size-forest_of 0 es s.flat_is, ap size view_is, ap size is, size-plug h old new, same_size))
              (omega (arith, s.low, ap levels view_is, ap levels is, levels-plug h old new, same_levels, low_old h old));
        } where
          low_old : (g : Hole N N) (x : Forest N N) → depth g + levels x ≤ levels (plug g x)
          low_old g x = depth_below_levels g x

    from : Spot id place f → Written id f e w (set es place (rewritten e w))
    from (a_leaf_at h v u is fresh at) =
        let l = lone_leaf id h v u (let P : Forest N N → Type 0 = λ x. IsDistinct nat_eq (ids x) in subst P is distinct) in
        made h (leaf id v u) (leaf id w u) false v (flat (0 + depth h) u ++ back 0 h) is at refl refl refl refl
        (ap (λ x. node_of (find id x)) is ∙ ap node_of (find-at_leaf id h v u fresh))
        (ap (with_node id w) is ∙ (ap (with_group id (λ _. w)) (with_leaf-at_leaf id (λ _. w) h v u fresh l)
        ∙ with_group-at_leaf id (λ _. w) h w u fresh l))
    from (a_group_at h v c u is fresh at) =
        let l = lone_group id h v c u (let P : Forest N N → Type 0 = λ x. IsDistinct nat_eq (ids x) in subst P is distinct) in
        made h (group id v c u) (group id w c u) true v ((flat (suc (0 + depth h)) c ++ flat (0 + depth h) u)
        ++ back 0 h) is at refl refl refl refl
        (ap (λ x. node_of (find id x)) is ∙ ap node_of (find-at_group id h v c u fresh))
        (ap (with_node id w) is ∙ (ap (with_group id (λ _. w)) (with_leaf-at_group id (λ _. w) h v c u fresh l)
        ∙ with_group-at_group id (λ _. w) h v c u fresh l))

module _ {L G : Type 0} where
  -- a node with a place is there, and one without is not
  pub is_there : (id place : ℕ) (f : Forest L G) → Some place ≡ place_of id f → no_node id (find id f) ≡ None
  is_there id place f e = from (spot id place f (sym e)) where
    from : Spot id place f → no_node id (find id f) ≡ None
    from (a_leaf_at h w u is fresh at) = ap (λ x. no_node id (find id x)) is ∙ ap (no_node id) (find-at_leaf id h w u fresh)
    from (a_group_at h w c u is fresh at) = ap (λ x. no_node id (find id x)) is ∙ ap (no_node id) (find-at_group id h w c u fresh)

  pub is_not_there : (id : ℕ) (f : Forest L G) → None ≡ place_of id f → no_node id (find id f) ≡ Some (NoNode id)
  is_not_there id f e = ap (no_node id) (nothing_placed id f (sym e))
