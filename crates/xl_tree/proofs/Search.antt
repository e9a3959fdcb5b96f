-- The first entry with an id, and where its node stands.
use Rattle.std.proofs.Common.{◌≡◌, ℕ, suc, ◌+◌, ◌<◌, ◌≤◌, Bool, true, false, cond, eqb, nat_lt, List, [], ◌∷◌, ◌++◌}
use Rattle.std.proofs.Common.{length, get_or, take, drop, refl, sym, ◌∙◌, ap, arith, eq-eqb}
use Rattle.std.proofs.lemmas.Bool.{ne_eqb}
use Rattle.std.proofs.lemmas.Bool.Decides.{nat_tests}
use Rattle.std.proofs.lemmas.List.{drop_more, drop_all, append_assoc, append-nil, take_at}
use Rattle.std.specs.Prelude.{Some}
use Rattle.spec_document.specs.Forest.{Forest, none, leaf, group, size, levels, Found, nothing, a_leaf, a_group, or_else}
use Rattle.spec_document.specs.Forest.{find, children_of, stack_at}
use Rattle.spec_document.specs.Holes.{Hole, here, under_leaf, under_group, in_group, plug, depth}
use Rattle.spec_document.proofs.Holes.{depth_below_levels, passed_within}
use Rattle.spec_document.proofs.Standing.{Fresh, Standing, nowhere, at_leaf, at_group, standing, find-at_leaf, find-at_group}
use Rattle.xl_tree.specs.declared.entries.NodeEntry.{NodeEntry}
use Rattle.xl_tree.specs.Flat.{flat, below, forest_of, from_id}
use Rattle.xl_tree.specs.Kept.{AreSiblings}
use Rattle.xl_tree.specs.Reads.{IsFound}
use Rattle.xl_tree.proofs.Flat.{size-forest_of, below-flat_deeper, length-flat, forest_of_is}
use Rattle.xl_tree.proofs.FlatHoles.{entry_of, front, back, flat-plug}
use Rattle.xl_tree.proofs.Taken.{siblings}

module _ {N : Type 0} where
  below_not_here : (low : ℕ) (e : NodeEntry N) (es : List (NodeEntry N)) → e.level ≤ low → below low (e ∷ es) ≡ 0
  below_not_here low e es h =
      let not_lower : nat_lt low e.level ≡ false = grind (arith, nat_tests) in
      ap (λ b. cond b (1 + below low es) 0) not_lower

  below_seam_at : (low : ℕ) (e : NodeEntry N) (xs ys : List (NodeEntry N)) (b : Bool) → nat_lt low e.level ≡ b
      → cond (nat_lt low e.level) (1 + below low xs) 0 ≡ 0 → cond (nat_lt low e.level) (1 + below low (xs ++ ys)) 0 ≡ 0
  below_seam_at low e xs ys true t h =
      let k : 1 + below low xs ≡ 0 = sym (ap (λ b. cond b (1 + below low xs) 0) t) ∙ h in absurd (omega (arith, k))
  below_seam_at low e xs ys false t h = ap (λ b. cond b (1 + below low (xs ++ ys)) 0) t

  skip : (id : ℕ) (e : NodeEntry N) (es : List (NodeEntry N)) → eqb id e.id ≡ false → from_id id (e ∷ es) ≡ from_id id es
  skip id e es n = ap (λ b. cond b (e ∷ es) (from_id id es)) n

  stop : (id : ℕ) (e : NodeEntry N) (es : List (NodeEntry N)) → eqb id e.id ≡ true → from_id id (e ∷ es) ≡ e ∷ es
  stop id e es y = ap (λ b. cond b (e ∷ es) (from_id id es)) y

  -- the search goes on, and ends
  pub from_id_more : (id : ℕ) (es : List (NodeEntry N)) (i : ℕ) (e : NodeEntry N) → i < length es → e ≡ get_or es i e → (id ≡ e.id → ⊥)
      → from_id id (drop i es) ≡ from_id id (drop (i + 1) es)
  from_id_more id es i e h at ne =
      ap (from_id id) (drop_more es i e h ∙ ap (λ x. x ∷ drop (i + 1) es) (sym at))
      ∙ skip id e (drop (i + 1) es) (ne_eqb id e.id ne)

  pub from_id_stop : (id : ℕ) (es : List (NodeEntry N)) (i : ℕ) (e : NodeEntry N) → i < length es → e ≡ get_or es i e → id ≡ e.id
      → from_id id (drop i es) ≡ drop i es
  from_id_stop id es i e h at same =
      let here_is : drop i es ≡ e ∷ drop (i + 1) es = drop_more es i e h ∙ ap (λ x. x ∷ drop (i + 1) es) (sym at) in
      ap (from_id id) here_is ∙ (stop id e (drop (i + 1) es) (eq-eqb id e.id same) ∙ sym here_is)

  pub from_id_end : (id : ℕ) (es : List (NodeEntry N)) (i : ℕ) → length es ≤ i → from_id id (drop i es) ≡ []
  from_id_end id es i h = ap (from_id id) (drop_all i es h)

  -- entries without the id are passed
  lacks_leaf : (id i : ℕ) (w : N) (u : Forest N N) (b : Bool) → eqb id i ≡ b → cond b (a_leaf w) (find id u) ≡ nothing
      → (b ≡ false) × (find id u ≡ nothing)
  lacks_leaf id i w u true e n = cc
  lacks_leaf id i w u false e n = (refl, n)

  lacks_group : (id i : ℕ) (w : N) (c u : Forest N N) (x y : Found N N) (b : Bool) → cond b (a_group w c) (or_else x y) ≡ nothing
      → (b ≡ false) × (x ≡ nothing) × (y ≡ nothing)
  lacks_group id i w c u x y true n = cc
  lacks_group id i w c u nothing y false n = (refl, refl, n)
  lacks_group id i w c u (a_leaf v) y false n = cc
  lacks_group id i w c u (a_group v d) y false n = cc

  pub from_id-lacking : (id level : ℕ) (f : Forest N N) (rest : List (NodeEntry N)) → find id f ≡ nothing
      → from_id id (flat level f ++ rest) ≡ from_id id rest
  from_id-lacking id level none rest n = refl
  from_id-lacking id level (leaf i w u) rest n =
      let l = lacks_leaf id i w u (eqb id i) refl n in
      skip id (entry_of level i false w) (flat level u ++ rest) l.0 ∙ from_id-lacking id level u rest l.1
  from_id-lacking id level (group i w c u) rest n =
      let l = lacks_group id i w c u (find id c) (find id u) (eqb id i) n in
      skip id (entry_of level i true w) ((flat (suc level) c ++ flat level u) ++ rest) l.0
      ∙ (ap (from_id id) (append_assoc (flat (suc level) c) (flat level u) rest)
      ∙ (from_id-lacking id (suc level) c (flat level u ++ rest) l.1 ∙ from_id-lacking id level u rest l.2))

  pub from_id-front : (id level : ℕ) (h : Hole N N) (rest : List (NodeEntry N)) → Fresh id h
      → from_id id (front level h ++ rest) ≡ from_id id rest
  from_id-front id level here rest fresh = refl
  from_id-front id level (under_leaf i w h) rest fresh =
      skip id (entry_of level i false w) (front level h ++ rest) fresh.0 ∙ from_id-front id level h rest fresh.1
  from_id-front id level (under_group i w c h) rest fresh =
      skip id (entry_of level i true w) ((flat (suc level) c ++ front level h) ++ rest) fresh.0
      ∙ (ap (from_id id) (append_assoc (flat (suc level) c) (front level h) rest)
      ∙ (from_id-lacking id (suc level) c (front level h ++ rest) fresh.1 ∙ from_id-front id level h rest fresh.2))
  from_id-front id level (in_group i w h u) rest fresh =
      skip id (entry_of level i true w) (front (suc level) h ++ rest) fresh.0 ∙ from_id-front id (suc level) h rest fresh.1

  -- the entries from a node on that stands in a hole
  pub from_id-plug : (id level : ℕ) (h : Hole N N) (f : Forest N N) (e : NodeEntry N) (es : List (NodeEntry N)) → Fresh id h
      → flat (level + depth h) f ++ back level h ≡ e ∷ es → eqb id e.id ≡ true → from_id id (flat level (plug h f)) ≡ e ∷ es
  from_id-plug id level h f e es fresh is same =
      ap (from_id id) (flat-plug level h f)
      ∙ (from_id-front id level h (flat (level + depth h) f ++ back level h) fresh
      ∙ (ap (from_id id) is ∙ stop id e es same))

  -- what is not deeper than a level is passed by none
  below-low : (low level : ℕ) (f : Forest N N) → level ≤ low → below low (flat level f) ≡ 0
  below-low low level none h = refl
  below-low low level (leaf i w u) h = below_not_here low (entry_of level i false w) (flat level u) h
  below-low low level (group i w c u) h = below_not_here low (entry_of level i true w) (flat (suc level) c ++ flat level u) h

  below-seam : (low : ℕ) (xs ys : List (NodeEntry N)) → below low xs ≡ 0 → below low ys ≡ 0 → below low (xs ++ ys) ≡ 0
  below-seam low [] ys h k = k
  below-seam low (e ∷ xs) ys h k = below_seam_at low e xs ys (nat_lt low e.level) refl h

  below-back : (level : ℕ) (h : Hole N N) → below (level + depth h) (back level h) ≡ 0
  below-back level here = refl
  below-back level (under_leaf i w h) = below-back level h
  below-back level (under_group i w c h) = below-back level h
  below-back level (in_group i w h u) =
      let deeper : suc level + depth h ≡ level + suc (depth h) = omega arith in
      below-seam (level + suc (depth h)) (back (suc level) h) (flat level u)
      (sym (ap (λ l. below l (back (suc level) h)) deeper) ∙ below-back (suc level) h)
      (below-low (level + suc (depth h)) level u (omega arith))

  -- the entries of a group's children, among those that follow it
  inside_is : (level : ℕ) (c u : Forest N N) (rest : List (NodeEntry N)) → below level rest ≡ 0
      → take (below level ((flat (suc level) c ++ flat level u) ++ rest)) ((flat (suc level) c ++ flat level u) ++ rest)
      ≡ flat (suc level) c
  inside_is level c u rest h =
      let es : List (NodeEntry N) = (flat (suc level) c ++ flat level u) ++ rest in
      let split : es ≡ flat (suc level) c ++ (flat level u ++ rest) = append_assoc (flat (suc level) c) (flat level u) rest in
      let deeper : level < suc level = omega arith in
      let k : below level es ≡ length (flat (suc level) c) =
      ap (below level) split ∙ omega (
        arith,
        below-flat_deeper level (suc level) deeper c (flat level u ++ rest),
        below-seam level (flat level u) rest (below-low level level u (omega arith)) h,
        length-flat (suc level) c,
      ) in
      (λ i. take (k i) (split i)) ∙ take_at (flat (suc level) c) (flat level u ++ rest) (length (flat (suc level) c)) refl

  pub from_id-nowhere : (id : ℕ) (f : Forest N N) → find id f ≡ nothing → from_id id (flat 0 f) ≡ []
  from_id-nowhere id f n = ap (from_id id) (sym (append-nil (flat 0 f))) ∙ from_id-lacking id 0 f [] n

  pub from_id-leaf : (id : ℕ) (f : Forest N N) (h : Hole N N) (w : N) (u : Forest N N) → f ≡ plug h (leaf id w u) → Fresh id h
      → from_id id (flat 0 f) ≡ entry_of (depth h) id false w ∷ (flat (0 + depth h) u ++ back 0 h)
  from_id-leaf id f h w u is fresh =
      let first : flat (0 + depth h) (leaf id w u)
      ++ back 0 h ≡ entry_of (depth h) id false w ∷ (flat (0 + depth h) u ++ back 0 h) =
      ap (λ l. entry_of l id false w ∷ (flat (0 + depth h) u ++ back 0 h)) (omega arith) in
      ap (λ x. from_id id (flat 0 x)) is
      ∙ from_id-plug id 0 h (leaf id w u) (entry_of (depth h) id false w) _ fresh first (eq-eqb id id refl)

  pub from_id-group : (id : ℕ) (f : Forest N N) (h : Hole N N) (w : N) (c u : Forest N N) → f ≡ plug h (group id w c u) → Fresh id h
      → from_id id (flat 0 f) ≡ entry_of (depth h) id true w ∷ ((flat (suc (depth h)) c ++ flat (depth h) u) ++ back 0 h)
  from_id-group id f h w c u is fresh =
      let first : flat (0 + depth h) (group id w c u)
      ++ back 0 h ≡ entry_of (depth h) id true w ∷ ((flat (suc (depth h)) c ++ flat (depth h) u) ++ back 0 h) =
      let l_is : 0 + depth h ≡ depth h = omega arith in
      ap (λ l. entry_of l id true w ∷ ((flat (suc l) c ++ flat l u) ++ back 0 h)) l_is in
      ap (λ x. from_id id (flat 0 x)) is
      ∙ from_id-plug id 0 h (group id w c u) (entry_of (depth h) id true w) _ fresh first (eq-eqb id id refl)

  -- nothing is found
  pub found_none : (id : ℕ) (es : List (NodeEntry N)) (f : Forest N N) → es ≡ flat 0 f → from_id id es ≡ [] → find id f ≡ nothing
  found_none id es f flat_is none_is = none_from (standing id f) where
    all : from_id id (flat 0 f) ≡ []
    all = ap (from_id id) (sym flat_is) ∙ none_is

    none_from : Standing id f → find id f ≡ nothing
    none_from (nowhere n) = n
    none_from (at_leaf h w u is fresh) = let k = sym (from_id-leaf id f h w u is fresh) ∙ all in cc
    none_from (at_group h w c u is fresh) = let k = sym (from_id-group id f h w c u is fresh) ∙ all in cc

  -- a leaf is found
  pub found_leaf : (id : ℕ) (es : List (NodeEntry N)) (f : Forest N N) (e : NodeEntry N) (rest : List (NodeEntry N)) → es ≡ flat 0 f
      → from_id id es ≡ e ∷ rest → e.group ≡ false → find id f ≡ a_leaf e.node
  found_leaf id es f e rest flat_is some_is mark = leaf_from (standing id f) where
    all : from_id id (flat 0 f) ≡ e ∷ rest
    all = ap (from_id id) (sym flat_is) ∙ some_is

    leaf_from : Standing id f → find id f ≡ a_leaf e.node
    leaf_from (nowhere n) = let k = sym (from_id-nowhere id f n) ∙ all in cc
    leaf_from (at_leaf h w u is fresh) =
        let k = sym (from_id-leaf id f h w u is fresh) ∙ all in
        let first : entry_of (depth h) id false w ≡ e = cc in
        ap (find id) is ∙ (find-at_leaf id h w u fresh ∙ ap (λ x. a_leaf x.node) first)
    leaf_from (at_group h w c u is fresh) =
        let k = sym (from_id-group id f h w c u is fresh) ∙ all in
        let first : entry_of (depth h) id true w ≡ e = cc in
        let wrong : true ≡ false = ap (λ x. x.group) first ∙ mark in
        cc

  -- a group is found, and its children
  pub record FoundGroup (id : ℕ) (f : Forest N N) (e : NodeEntry N) (inside : List (NodeEntry N)) : Type 0 where
    pub found : find id f ≡ a_group e.node (forest_of inside)
    pub deep : e.level + 1 ≤ 8
    pub children : AreSiblings (e.level + 1) inside

  pub found_group : (id : ℕ) (es : List (NodeEntry N)) (f : Forest N N) (e : NodeEntry N) (rest inside : List (NodeEntry N)) → AreSiblings 0 es
      → forest_of es ≡ f → from_id id es ≡ e ∷ rest → e.group ≡ true → inside ≡ take (below e.level rest) rest
      → FoundGroup id f e inside
  found_group id es f e rest inside s view_is some_is mark inside_at = group_from (standing id f) where
    flat_at : es ≡ flat 0 f
    flat_at = s.flat_is ∙ ap (flat 0) view_is

    all : from_id id (flat 0 f) ≡ e ∷ rest
    all = ap (from_id id) (sym flat_at) ∙ some_is

    group_from : Standing id f → FoundGroup id f e inside
    group_from (nowhere n) = let k = sym (from_id-nowhere id f n) ∙ all in cc
    group_from (at_leaf h w u is fresh) =
        let k = sym (from_id-leaf id f h w u is fresh) ∙ all in
        let first : entry_of (depth h) id false w ≡ e = cc in
        let wrong : false ≡ true = ap (λ x. x.group) first ∙ mark in
        cc
    group_from (at_group h w c u is fresh) =
        let k = sym (from_id-group id f h w c u is fresh) ∙ all in
        let first : entry_of (depth h) id true w ≡ e = cc in
        let next : (flat (suc (depth h)) c ++ flat (depth h) u) ++ back 0 h ≡ rest = cc in
        let level_is : e.level ≡ depth h = sym (ap (λ x. x.level) first) in
        let back_is : below (depth h) (back 0 h) ≡ 0 = let z : 0 + depth h ≡ depth h = omega arith in
        sym (ap (λ l. below l (back 0 h)) z) ∙ below-back 0 h in
        let flat_inside : inside ≡ flat (suc (depth h)) c =
        inside_at ∙ ((λ i. take (below (level_is i) (sym next i)) (sym next i)) ∙ inside_is (depth h) c u (back 0 h) back_is) in
        let level_1 : suc (depth h) ≡ e.level + 1 = omega (arith, level_is) in
        let flat_1 : inside ≡ flat (e.level + 1) c = flat_inside ∙ ap (λ l. flat l c) level_1 in
        let within = passed_within h (group id w c u) in
        let low = depth_below_levels h (group id w c u) in
        record {
          found = ap (find id) is ∙ (find-at_group id h w c u fresh
              ∙ (λ i. a_group (ap (λ x. x.node) first i) (sym (forest_of_is (e.level + 1) inside c flat_1) i)));
          deep = omega (arith, s.low, low, level_is, ap levels is, ap levels view_is);
          children = siblings (e.level + 1) inside c flat_1
              (omega (arith, s.few, within, size-forest_of 0 es s.flat_is, ap size is, ap size view_is))
              (omega (arith, s.low, low, level_is, ap levels is, ap levels view_is));
        }

  -- a stack that is not the top is the children of a group
  pub stack_below : (id : ℕ) (f : Forest N N) (found : Found N N) → (id ≡ 0 → ⊥) → find id f ≡ found
      → stack_at id f ≡ children_of found
  stack_below id f found ne is = ap (λ b. cond b (Some f) (children_of (find id f))) (ne_eqb id 0 ne) ∙ ap children_of is

  pub is_found_leaf : (found : Found N N) (e : NodeEntry N) (children : Forest N N) → found ≡ a_leaf e.node → e.group ≡ false
      → children ≡ none → IsFound found e children
  is_found_leaf found e children is mark empty = record {
    found_is = is ∙ sym (ap (λ b. cond b (a_group e.node children) (a_leaf e.node)) mark);
    leaf_is = λ _. empty;
  }

  pub is_found_group : (found : Found N N) (e : NodeEntry N) (children : Forest N N) → found ≡ a_group e.node children → e.group ≡ true
      → IsFound found e children
  is_found_group found e children is mark = record {
    found_is = is ∙ sym (ap (λ b. cond b (a_group e.node children) (a_leaf e.node)) mark);
    leaf_is = λ unmarked. let wrong : true ≡ false = sym mark ∙ unmarked in cc;
  }
