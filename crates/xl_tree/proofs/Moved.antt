-- What is put into a slot, and what is taken out of its place.
use Rattle.std.proofs.Common.{◌≡◌, ℕ, suc, ◌+◌, ◌-◌, ◌<◌, ◌≤◌, Bool, true, false, nat_eq, List, [], ◌∷◌, ◌++◌, length}
use Rattle.std.proofs.Common.{get_or, map, take, drop, refl, sym, ◌∙◌, subst, ap, arith, length-append}
use Rattle.std.proofs.lemmas.List.{append_assoc, take_at, drop_at, take-append-le, drop-append-le, length-drop, get_or_at}
use Rattle.std.specs.Prelude.{Some}
use Rattle.std.specs.List.{IsDistinct, insert}
use Rattle.spec_document.specs.Forest.{Forest, none, leaf, group, size, levels, ids, find}
use Rattle.spec_document.specs.Changes.{above, put_into, without, branch_of}
use Rattle.spec_document.specs.Holes.{Hole, plug, depth, passed}
use Rattle.spec_document.proofs.Holes.{size-plug, levels-plug, depth_below_levels, passed_within}
use Rattle.spec_document.proofs.Standing.{find-at_leaf, find-at_group}
use Rattle.spec_document.proofs.Distinct.{lone_leaf, lone_group, without-at_leaf, without-at_group, branch_of-at_leaf}
use Rattle.spec_document.proofs.Distinct.{branch_of-at_group}
use Rattle.xl_tree.specs.declared.entries.NodeEntry.{NodeEntry}
use Rattle.xl_tree.specs.Flat.{flat, forest_of}
use Rattle.xl_tree.specs.Kept.{AreSiblings}
use Rattle.xl_tree.specs.Moves.{shifted, AreShallow}
use Rattle.xl_tree.specs.Places.{place_of, alone}
use Rattle.xl_tree.specs.Reads.{size_of}
use Rattle.xl_tree.specs.Slots.{IsSlot}
use Rattle.xl_tree.proofs.Flat.{length-flat, forest_of_is, size-forest_of}
use Rattle.xl_tree.proofs.FlatHoles.{entry_of, front, back, flat-plug, length-front, take-plug, drop-plug}
use Rattle.xl_tree.proofs.Placed.{Spot, a_leaf_at, a_group_at, spot}
use Rattle.xl_tree.proofs.PutLast.{flat-alone, size-alone}
use Rattle.xl_tree.proofs.Shifted.{map-down, map-up, shallow-flat}
use Rattle.xl_tree.proofs.Taken.{siblings}
use Rattle.spec_document.specs.declared.TheConstants.{MAX_NODES}

module _ {N : Type 0} where
  pub flat-above : (level : ℕ) (a b : Forest N N) → flat level (above a b) ≡ flat level a ++ flat level b
  flat-above level none b = refl
  flat-above level (leaf id w u) b = ap (λ es. entry_of level id false w ∷ es) (flat-above level u b)
  flat-above level (group id w c u) b =
      ap (λ es. entry_of level id true w ∷ es)
      (ap (λ es. flat (suc level) c ++ es) (flat-above level u b)
      ∙ sym (append_assoc (flat (suc level) c) (flat level u) (flat level b)))

  pub size-above : (a b : Forest N N) → size (above a b) ≡ size a + size b
  size-above none b = omega arith
  size-above (leaf id w u) b = omega (arith, size-above u b)
  size-above (group id w c u) b = omega (arith, size-above u b)

  -- a run of entries in a slot
  pub record PutIn (new : List (NodeEntry N)) (forest : Forest N N) : Type 0 where
    pub view : forest_of new ≡ forest
    pub siblings : AreSiblings 0 new

  pub slot_within : (stack place : ℕ) (f : Forest N N) (at level : ℕ) → IsSlot stack place f at level → at ≤ size f
  slot_within stack place f at level s = omega (arith, s.at_is, passed_within s.hole s.under, ap size s.forest_is)

  pub slot_low : (stack place : ℕ) (f : Forest N N) (at level : ℕ) → levels f ≤ 8 → IsSlot stack place f at level → level ≤ 8
  slot_low stack place f at level low s = omega (arith, low, s.level_is, depth_below_levels s.hole s.under, ap levels s.forest_is)

  plugged : (h : Hole N N) (under b r : Forest N N) (at level : ℕ) (new : List (NodeEntry N)) → r ≡ plug h under → passed h ≡ at
      → depth h ≡ level → new ≡ take at (flat 0 r) ++ (flat level b ++ drop at (flat 0 r)) → new ≡ flat 0 (plug h (above b under))
  plugged h under b r at level new r_is at_is level_is new_is =
      let before : take at (flat 0 r) ≡ front 0 h = (λ j. take (sym at_is j) (flat 0 (r_is j))) ∙ take-plug 0 h under in
      let after : drop at (flat 0 r) ≡ flat (0 + depth h) under ++ back 0 h = (λ j. drop (sym at_is j) (flat 0 (r_is j)))
      ∙ drop-plug 0 h under in
      let l : level ≡ 0 + depth h = omega (arith, level_is) in
      new_is
      ∙ ((λ j. before j ++ (flat (l j) b ++ after j))
      ∙ (ap (λ x. front 0 h ++ x) (sym (append_assoc (flat (0 + depth h) b) (flat (0 + depth h) under) (back 0 h))
      ∙ ap (λ x. x ++ back 0 h) (sym (flat-above (0 + depth h) b under)))
      ∙ sym (flat-plug 0 h (above b under))))

  pub put_in : (stack place : ℕ) (es new : List (NodeEntry N)) (f b : Forest N N) (at level : ℕ) → es ≡ flat 0 f
      → IsSlot stack place f at level → size f + size b ≤ MAX_NODES → levels (put_into stack place b f) ≤ 8
      → new ≡ take at es ++ (flat level b ++ drop at es) → PutIn new (put_into stack place b f)
  put_in stack place es new f b at level es_is s few low new_is =
      let new_flat : new ≡ flat 0 (plug s.hole (above b s.under)) =
      plugged s.hole s.under b f at level new s.forest_is s.at_is s.level_is (new_is
      ∙ ap (λ x. take at x ++ (flat level b ++ drop at x)) es_is) in
      record {
        view = forest_of_is 0 new (plug s.hole (above b s.under)) new_flat ∙ sym (s.put_is b);
        siblings = siblings 0 new (plug s.hole (above b s.under)) new_flat
            (omega (arith, few, size-plug s.hole s.under (above b s.under), size-above b s.under, ap size s.forest_is))
            (omega (arith, low, ap levels (s.put_is b)));
      }

  pub put_in_one : (stack place : ℕ) (es new : List (NodeEntry N)) (f : Forest N N) (at level id : ℕ) (mark : Bool) (node : N)
      → es ≡ flat 0 f → IsSlot stack place f at level → size f < MAX_NODES
      → levels (put_into stack place (alone mark id node) f) ≤ 8 → new ≡ insert es at (entry_of level id mark node)
      → PutIn new (put_into stack place (alone mark id node) f)
  put_in_one stack place es new f at level id mark node es_is s few low new_is =
      put_in stack place es new f (alone mark id node) at level es_is s (omega (arith, few, size-alone id mark node)) low
      (new_is ∙ ap (λ x. take at es ++ (x ++ drop at es)) (sym (flat-alone level id mark node)))

  -- what a node and all below it are in their place, and what is left
  pub record Removal (id at : ℕ) (f : Forest N N) : Type 0 where
    pub hole : Hole N N
    pub branch : Forest N N
    pub under : Forest N N
    pub forest_is : f ≡ plug hole (above branch under)
    pub at_is : passed hole ≡ at
    pub without_is : without id f ≡ plug hole under
    pub branch_is : branch_of id f ≡ branch
    pub size_is : size_of (find id f) ≡ size branch
    pub some : 0 < size branch
    pub entry : NodeEntry N
    pub rest : List (NodeEntry N)
    pub first_is : flat (0 + depth hole) branch ≡ entry ∷ rest
    pub level_is : entry.level ≡ depth hole

  pub removal : (id at : ℕ) (f : Forest N N) → place_of id f ≡ Some at → IsDistinct nat_eq (ids f) → Removal id at f
  removal id at f at_place distinct = from (spot id at f at_place) where
    from : Spot id at f → Removal id at f
    from (a_leaf_at h w u is fresh at_is) =
        let l = lone_leaf id h w u (let P : Forest N N → Type 0 = λ x. IsDistinct nat_eq (ids x) in subst P is distinct) in
        record {
          hole = h;
          branch = leaf id w none;
          under = u;
          forest_is = is;
          at_is = at_is;
          without_is = ap (without id) is ∙ without-at_leaf id h w u fresh l;
          branch_is = ap (branch_of id) is ∙ branch_of-at_leaf id h w u fresh l;
          size_is = ap (λ x. size_of (find id x)) is ∙ ap size_of (find-at_leaf id h w u fresh);
          some = omega arith;
          entry = entry_of (0 + depth h) id false w;
          rest = [];
          first_is = refl;
          level_is = omega arith;
        }
    from (a_group_at h w c u is fresh at_is) =
        let l = lone_group id h w c u (let P : Forest N N → Type 0 = λ x. IsDistinct nat_eq (ids x) in subst P is distinct) in
        record {
          hole = h;
          branch = group id w c none;
          under = u;
          forest_is = is;
          at_is = at_is;
          without_is = ap (without id) is ∙ without-at_group id h w c u fresh l;
          branch_is = ap (branch_of id) is ∙ branch_of-at_group id h w c u fresh l;
          size_is = ap (λ x. size_of (find id x)) is ∙ (ap size_of (find-at_group id h w c u fresh) ∙ omega arith);
          some = omega arith;
          entry = entry_of (0 + depth h) id true w;
          rest = flat (suc (0 + depth h)) c ++ [];
          first_is = refl;
          level_is = omega arith;
        }

  -- the entries where a node is taken out
  pub record TakenOut (id at count level : ℕ) (f : Forest N N) (es : List (NodeEntry N)) : Type 0 where
    pub within : at + count ≤ length es
    pub there : at < length es
    pub shallow : AreShallow (take count (drop at es))
    pub parked : take at es ++ (drop count (drop at es) ++ map (shifted level 0) (take count (drop at es))) ≡ flat 0 (without id f)
        ++ flat 0 (branch_of id f)

  pub taken_out : (id at count level : ℕ) (es : List (NodeEntry N)) (f : Forest N N) → AreSiblings 0 es → forest_of es ≡ f
      → (r : Removal id at f) → count ≡ size r.branch → level ≡ depth r.hole → TakenOut id at count level f es
  taken_out id at count level es f s view_is r count_is level_is =
      let h : Hole N N = r.hole in
      let d : ℕ = 0 + depth h in
      let es_is : es ≡ flat 0 (plug h (above r.branch r.under)) = s.flat_is ∙ ap (flat 0) (view_is ∙ r.forest_is) in
      let before : take at es ≡ front 0 h = (λ j. take (sym r.at_is j) (es_is j)) ∙ take-plug 0 h (above r.branch r.under) in
      let tail : List (NodeEntry N) = flat d r.under ++ back 0 h in
      let after : drop at es ≡ flat d r.branch ++ tail =
      (λ j. drop (sym r.at_is j) (es_is j)) ∙ (drop-plug 0 h (above r.branch r.under)
      ∙ (ap (λ x. x ++ back 0 h) (flat-above d r.branch r.under) ∙ append_assoc (flat d r.branch) (flat d r.under) (back 0 h))) in
      let n : length (flat d r.branch) ≡ count = length-flat d r.branch ∙ sym count_is in
      let run : take count (drop at es) ≡ flat d r.branch = ap (take count) after ∙ take_at (flat d r.branch) tail count n in
      let left : drop count (drop at es) ≡ tail = ap (drop count) after ∙ drop_at (flat d r.branch) tail count n in
      let size_all : length es ≡ size (plug h (above r.branch r.under)) = ap length es_is
      ∙ length-flat 0 (plug h (above r.branch r.under)) in
      let inside = passed_within h (above r.branch r.under) in
      let deep = depth_below_levels h (above r.branch r.under) in
      let low_branch : levels r.branch ≤ levels (above r.branch r.under) = levels-above_left r.branch r.under in
      let l : level ≡ d = omega (arith, level_is) in
      record {
        within = omega (arith, size_all, inside, r.at_is, count_is, size-above r.branch r.under);
        there = omega (arith, size_all, inside, r.at_is, r.some, size-above r.branch r.under);
        shallow = let P : List (NodeEntry N) → Type 0 = AreShallow in
            subst P (sym run) (shallow-flat d r.branch
            (omega (arith, s.low, ap levels view_is, ap levels r.forest_is, deep, low_branch)));
        parked = (λ j. before j ++ (left j ++ map (shifted (l j) 0) (run j)))
            ∙ (ap (λ x. front 0 h ++ (tail ++ x)) (map-down d r.branch)
            ∙ (sym (append_assoc (front 0 h) tail (flat 0 r.branch))
            ∙ (λ j. (sym (flat-plug 0 h r.under) ∙ ap (flat 0) (sym r.without_is)) j ++ flat 0 (sym r.branch_is j))));
      } where
        levels-above_left : (a b : Forest N N) → levels a ≤ levels (above a b)
        levels-above_left none b = omega arith
        levels-above_left (leaf i v x) b = omega (arith, levels-above_left x b)
        levels-above_left (group i v c x) b = omega (arith, levels-above_left x b)

  pub removal_level : (id at : ℕ) (es : List (NodeEntry N)) (f : Forest N N) (e : NodeEntry N) → AreSiblings 0 es → forest_of es ≡ f
      → (r : Removal id at f) → e ≡ get_or es at e → e.level ≡ depth r.hole
  removal_level id at es f e s view_is r e_is =
      let h : Hole N N = r.hole in
      let d : ℕ = 0 + depth h in
      let split : es ≡ front 0 h ++ (r.entry ∷ (r.rest ++ (flat d r.under ++ back 0 h))) =
      s.flat_is ∙ (ap (flat 0) (view_is ∙ r.forest_is) ∙ (flat-plug 0 h (above r.branch r.under)
      ∙ ap (λ x. front 0 h ++ x) (ap (λ x. x ++ back 0 h) (flat-above d r.branch r.under)
      ∙ (append_assoc (flat d r.branch) (flat d r.under) (back 0 h) ∙ ap (λ x. x ++ (flat d r.under ++ back 0 h)) r.first_is)))) in
      ap (λ x. x.level) (e_is ∙ (ap (λ x. get_or x at e) split
      ∙ get_or_at (front 0 h) r.entry (r.rest ++ (flat d r.under ++ back 0 h)) e at (length-front 0 h ∙ r.at_is)))
      ∙ r.level_is

  -- the entries where a branch that is parked at the end is put back
  pub put_back_is : (r b : Forest N N) (es : List (NodeEntry N)) (at count level n : ℕ) → es ≡ flat 0 r ++ flat 0 b → n ≡ length es
      → count ≡ size b → at ≤ size r → take at es
      ++ (map (shifted 0 level) (drop (n - count) es) ++ take (n - count - at) (drop at es)) ≡ take at (flat 0 r)
      ++ (flat level b ++ drop at (flat 0 r))
  put_back_is r b es at count level n es_is n_is count_is at_in =
      let sizes : n ≡ size r + size b = n_is
      ∙ (ap length es_is ∙ omega (arith, length-append (flat 0 r) (flat 0 b), length-flat 0 r, length-flat 0 b)) in
      let k : n - count ≡ size r = omega (arith, sizes, count_is) in
      let low : length (flat 0 r) ≡ size r = length-flat 0 r in
      let before : take at es ≡ take at (flat 0 r) = ap (take at) es_is
      ∙ take-append-le at (flat 0 r) (flat 0 b) (omega (arith, low, at_in)) in
      let branch : drop (n - count) es ≡ flat 0 b = (λ j. drop (k j) (es_is j)) ∙ drop_at (flat 0 r) (flat 0 b) (size r) low in
      let after_all : drop at es ≡ drop at (flat 0 r) ++ flat 0 b = ap (drop at) es_is
      ∙ drop-append-le at (flat 0 r) (flat 0 b) (omega (arith, low, at_in)) in
      let m : length (drop at (flat 0 r)) ≡ n - count - at = length-drop at (flat 0 r) ∙ omega (arith, low, k) in
      let after : take (n - count - at) (drop at es) ≡ drop at (flat 0 r) = ap (take (n - count - at)) after_all
      ∙ take_at (drop at (flat 0 r)) (flat 0 b) (n - count - at) m in
      (λ j. before j ++ (map (shifted 0 level) (branch j) ++ after j))
      ∙ ap (λ x. take at (flat 0 r) ++ (x ++ drop at (flat 0 r))) (map-up level b)

  -- put back where it was taken out, all is as before
  pub as_before : (id at : ℕ) (f : Forest N N) (new : List (NodeEntry N)) → (r : Removal id at f)
      → new ≡ take at (flat 0 (without id f)) ++ (flat (depth r.hole) (branch_of id f) ++ drop at (flat 0 (without id f)))
      → new ≡ flat 0 f
  as_before id at f new r new_is =
      plugged r.hole r.under r.branch (plug r.hole r.under) at (depth r.hole) new refl r.at_is refl
      (new_is ∙ (λ j. take at (flat 0 (r.without_is j))
      ++ (flat (depth r.hole) (r.branch_is j) ++ drop at (flat 0 (r.without_is j)))))
      ∙ ap (flat 0) (sym r.forest_is)

  -- the same, with what a function of code knows
  pub record SlotFits (es : List (NodeEntry N)) (at level : ℕ) : Type 0 where
    pub within : at ≤ length es
    pub low : level ≤ 8

  pub slot_of : (stack place at level : ℕ) (xs es : List (NodeEntry N)) (f : Forest N N) → xs ≡ es → forest_of es ≡ f
      → IsSlot stack place (forest_of xs) at level → IsSlot stack place f at level
  slot_of stack place at level xs es f same view_is s =
      let P : Forest N N → Type 0 = λ x. IsSlot stack place x at level in subst P (ap forest_of same ∙ view_is) s

  pub slot_fits : (stack place at level : ℕ) (es : List (NodeEntry N)) (f : Forest N N) → AreSiblings 0 es → forest_of es ≡ f
      → IsSlot stack place f at level → SlotFits es at level
  slot_fits stack place at level es f s view_is slot = record {
    within = omega (arith, slot_within stack place f at level slot, size-forest_of 0 es s.flat_is, ap size view_is);
    low = slot_low stack place f at level (omega (arith, s.low, ap levels view_is)) slot;
  }

  pub shallow_tail : (es bs new : List (NodeEntry N)) (n count : ℕ) → new ≡ es ++ bs → n ≡ length new → count ≡ length bs
      → AreSiblings 0 bs → AreShallow (drop (n - count) new)
  shallow_tail es bs new n count new_is n_is count_is s =
      let k : length es ≡ n - count = omega (arith, n_is, count_is, ap length new_is, length-append es bs) in
      let tail : drop (n - count) new ≡ flat 0 (forest_of bs) = ap (drop (n - count)) new_is
      ∙ (drop_at es bs (n - count) k ∙ s.flat_is) in
      let P : List (NodeEntry N) → Type 0 = AreShallow in subst P (sym tail) (shallow-flat 0 (forest_of bs) s.low)

  -- a branch that was parked at the end is put into a slot
  pub grafted : (stack place : ℕ) (r b : Forest N N) (es new : List (NodeEntry N)) (at count level n : ℕ) → es ≡ flat 0 r ++ flat 0 b
      → n ≡ length es → count ≡ size b → IsSlot stack place r at level → size r + size b ≤ MAX_NODES
      → levels (put_into stack place b r) ≤ 8
      → new ≡ take at es ++ (map (shifted 0 level) (drop (n - count) es) ++ take (n - count - at) (drop at es))
      → PutIn new (put_into stack place b r)
  grafted stack place r b es new at count level n es_is n_is count_is slot few low new_is =
      put_in stack place (flat 0 r) new r b at level refl slot few low
      (new_is ∙ put_back_is r b es at count level n es_is n_is count_is (slot_within stack place r at level slot))

  -- or where it was before
  pub restored : (id at : ℕ) (f : Forest N N) (es new : List (NodeEntry N)) (count level n : ℕ)
      → es ≡ flat 0 (without id f) ++ flat 0 (branch_of id f) → n ≡ length es → (k : Removal id at f) → count ≡ size k.branch
      → level ≡ depth k.hole
      → new ≡ take at es ++ (map (shifted 0 level) (drop (n - count) es) ++ take (n - count - at) (drop at es)) → new ≡ flat 0 f
  restored id at f es new count level n es_is n_is k count_is level_is new_is =
      let inside : at ≤ size (without id f) = omega (arith, k.at_is, passed_within k.hole k.under, ap size k.without_is) in
      as_before id at f new k
      (new_is ∙ (put_back_is (without id f) (branch_of id f) es at count level n es_is n_is (count_is
      ∙ ap size (sym k.branch_is)) inside
      ∙ ap (λ l. take at (flat 0 (without id f)) ++ (flat l (branch_of id f) ++ drop at (flat 0 (without id f)))) level_is))

  -- what is left, and what was taken out
  pub record Parts (id at : ℕ) (f : Forest N N) (es : List (NodeEntry N)) (rest branch : List (NodeEntry N)) : Type 0 where
    pub rest_is : rest ≡ flat 0 (without id f)
    pub branch_is : branch ≡ flat 0 (branch_of id f)
    pub rest_siblings : AreSiblings 0 rest
    pub branch_siblings : AreSiblings 0 branch

  pub parts : (id at count n : ℕ) (f : Forest N N) (es : List (NodeEntry N)) → size f ≤ MAX_NODES → levels f ≤ 8 → (r : Removal id at f)
      → count ≡ size r.branch → n ≡ length es → es ≡ flat 0 (without id f) ++ flat 0 (branch_of id f)
      → Parts id at f es (take (n - count) es) (drop (n - count) es)
  parts id at count n f es few low r count_is n_is es_is =
      let rest_size : length (flat 0 (without id f)) ≡ size (without id f) = length-flat 0 (without id f) in
      let branch_size : length (flat 0 (branch_of id f)) ≡ size r.branch = length-flat 0 (branch_of id f) ∙ ap size r.branch_is in
      let k : length (flat 0 (without id f)) ≡ n - count =
      omega (
        arith,
        n_is,
        count_is,
        branch_size,
        ap length es_is,
        length-append (flat 0 (without id f)) (flat 0 (branch_of id f)),
      ) in
      let rest_is : take (n - count) es ≡ flat 0 (without id f) = ap (take (n - count)) es_is
      ∙ take_at (flat 0 (without id f)) (flat 0 (branch_of id f)) (n - count) k in
      let branch_is : drop (n - count) es ≡ flat 0 (branch_of id f) = ap (drop (n - count)) es_is
      ∙ drop_at (flat 0 (without id f)) (flat 0 (branch_of id f)) (n - count) k in
      let sizes : size f ≡ size r.branch + size (without id f) =
      ap size r.forest_is ∙ omega (
        arith,
        size-plug r.hole r.under (above r.branch r.under),
        size-above r.branch r.under,
        ap size r.without_is,
      ) in
      let deep = depth_below_levels r.hole (above r.branch r.under) in
      record {
        rest_is = rest_is;
        branch_is = branch_is;
        rest_siblings = siblings 0 (take (n - count) es) (without id f) rest_is (omega (arith, few, sizes))
            (omega (
              arith,
              low,
              ap levels r.without_is,
              levels-plug r.hole (above r.branch r.under) r.under,
              deep,
              levels_right r.branch r.under,
              ap levels r.forest_is,
            ));
        branch_siblings =
            siblings 0 (drop (n - count) es) (branch_of id f) branch_is (omega (arith, few, sizes, ap size r.branch_is))
            (omega (arith, low, ap levels r.branch_is, deep, levels_left r.branch r.under, ap levels r.forest_is));
      } where
        levels_left : (a b : Forest N N) → levels a ≤ levels (above a b)
        levels_left none b = omega arith
        levels_left (leaf i v x) b = omega (arith, levels_left x b)
        levels_left (group i v c x) b = omega (arith, levels_left x b)

        levels_right : (a b : Forest N N) → levels b ≤ levels (above a b)
        levels_right none b = omega arith
        levels_right (leaf i v x) b = omega (arith, levels_right x b)
        levels_right (group i v c x) b = omega (arith, levels_right x b)

  -- what is there when a node is taken out of a tree
  pub record Taken (id at count level : ℕ) (f : Forest N N) (es : List (NodeEntry N)) : Type 0 where
    pub removal_is : Removal id at f
    pub count_is : count ≡ size removal_is.branch
    pub level_is : level ≡ depth removal_is.hole
    pub out : TakenOut id at count level f es

  pub taken : (id at count : ℕ) (es : List (NodeEntry N)) (f : Forest N N) (e : NodeEntry N) → AreSiblings 0 es → forest_of es ≡ f
      → Some at ≡ place_of id f → IsDistinct nat_eq (ids f) → count ≡ size_of (find id f) → e ≡ get_or es at e
      → Taken id at count e.level f es
  taken id at count es f e s view_is at_place distinct size_is e_is =
      let r = removal id at f (sym at_place) distinct in
      let n : count ≡ size r.branch = size_is ∙ r.size_is in
      let l : e.level ≡ depth r.hole = removal_level id at es f e s view_is r e_is in
      record { removal_is = r; count_is = n; level_is = l; out = taken_out id at count e.level es f s view_is r n l }

  -- a tree and a branch after a node was taken out
  pub record Removed (id : ℕ) (f : Forest N N) (from to : List (NodeEntry N)) : Type 0 where
    pub from_view : forest_of from ≡ without id f
    pub to_view : forest_of to ≡ branch_of id f
    pub from_siblings : AreSiblings 0 from
    pub to_siblings : AreSiblings 0 to

  pub removed : (id at count level n : ℕ) (es parked from to : List (NodeEntry N)) (f : Forest N N) → AreSiblings 0 es
      → forest_of es ≡ f → Taken id at count level f es
      → parked ≡ take at es ++ (drop count (drop at es) ++ map (shifted level 0) (take count (drop at es))) → n ≡ length parked
      → from ≡ take (n - count) parked → to ≡ drop (n - count) parked → Removed id f from to
  removed id at count level n es parked from to f s view_is t parked_is n_is from_is to_is =
      let all = size-forest_of 0 es s.flat_is in
      let p = parts id at count n f parked (omega (arith, s.few, all, ap size view_is))
      (omega (arith, s.low, ap levels view_is)) t.removal_is t.count_is n_is (parked_is ∙ t.out.parked) in
      let P : List (NodeEntry N) → Type 0 = λ x. AreSiblings 0 x in
      record {
        from_view = forest_of_is 0 from (without id f) (from_is ∙ p.rest_is);
        to_view = forest_of_is 0 to (branch_of id f) (to_is ∙ p.branch_is);
        from_siblings = subst P (sym from_is) p.rest_siblings;
        to_siblings = subst P (sym to_is) p.branch_siblings;
      }

  pub parked_within : (id at count level n : ℕ) (es parked : List (NodeEntry N)) (f : Forest N N) → Taken id at count level f es
      → parked ≡ take at es ++ (drop count (drop at es) ++ map (shifted level 0) (take count (drop at es))) → n ≡ length parked
      → count ≤ n
  parked_within id at count level n es parked f t parked_is n_is =
      omega (
        arith,
        n_is,
        ap length (parked_is ∙ t.out.parked),
        length-append (flat 0 (without id f)) (flat 0 (branch_of id f)),
        length-flat 0 (branch_of id f),
        t.count_is,
        ap size t.removal_is.branch_is,
      )
