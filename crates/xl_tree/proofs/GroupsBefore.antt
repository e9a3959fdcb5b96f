-- The groups above a node are the groups round its hole.
use Rattle.std.proofs.Common.{◌≡◌, ℕ, suc, ◌+◌, ◌-◌, ◌<◌, ◌≤◌, min, true, false, cond, nat_lt, List, [], ◌∷◌, ◌++◌}
use Rattle.std.proofs.Common.{length, get_or, take, refl, sym, ◌∙◌, ap, arith, length-append}
use Rattle.std.proofs.lemmas.Bool.{lt-ltb}
use Rattle.std.proofs.lemmas.Bool.Decides.{nat_tests}
use Rattle.std.proofs.lemmas.List.{take_more, append-nil, append_assoc, take_at}
use Rattle.std.specs.Prelude.{Some, unwrap_or}
use Rattle.spec_document.specs.Forest.{Forest, none, leaf, group, levels, ancestors}
use Rattle.spec_document.specs.Holes.{Hole, here, under_leaf, under_group, in_group, plug, depth}
use Rattle.spec_document.proofs.Holes.{depth_below_levels}
use Rattle.spec_document.proofs.Standing.{Standing, nowhere, at_leaf, at_group, standing, groups, ancestors-nowhere}
use Rattle.spec_document.proofs.Standing.{ancestors-plug, ancestors-of_leaf, ancestors-of_group}
use Rattle.xl_tree.specs.declared.entries.NodeEntry.{NodeEntry}
use Rattle.xl_tree.specs.Flat.{flat, forest_of, from_id}
use Rattle.xl_tree.specs.Kept.{AreSiblings}
use Rattle.xl_tree.specs.Above.{lowest, groups_before}
use Rattle.xl_tree.proofs.FlatHoles.{entry_of, front, back, flat-plug}
use Rattle.xl_tree.proofs.Search.{from_id-nowhere, from_id-leaf, from_id-group, found_none}

not_lower : (m n : ℕ) → n ≤ m → nat_lt m n ≡ false
not_lower m n h = grind (arith, nat_tests)

module _ {N : Type 0} where
  -- deeper entries in front are no groups above
  lowest-deep : (low level : ℕ) (f : Forest N N) (es : List (NodeEntry N)) → lowest es low ≤ level
      → lowest (flat level f ++ es) low ≡ lowest es low
  lowest-deep low level none es h = refl
  lowest-deep low level (leaf id w u) es h = omega (arith, h, lowest-deep low level u es h)
  lowest-deep low level (group id w c u) es h =
      let rest = lowest-deep low level u es h in
      let inner = lowest-deep low (suc level) c (flat level u ++ es) (omega (arith, h, rest)) in
      omega (arith, h, rest, inner, ap (λ x. lowest x low) (append_assoc (flat (suc level) c) (flat level u) es))

  groups-deep : (low level : ℕ) (f : Forest N N) (es : List (NodeEntry N)) → lowest es low ≤ level
      → groups_before (flat level f ++ es) low ≡ groups_before es low
  groups-deep low level none es h = refl
  groups-deep low level (leaf id w u) es h =
      let rest = lowest-deep low level u es h in
      ap (λ b. groups_before (flat level u ++ es) low
      ++ cond b (id ∷ []) []) (not_lower level (lowest (flat level u ++ es) low) (omega (arith, h, rest)))
      ∙ (append-nil (groups_before (flat level u ++ es) low) ∙ groups-deep low level u es h)
  groups-deep low level (group id w c u) es h =
      let rest = lowest-deep low level u es h in
      let below_es : List (NodeEntry N) = (flat (suc level) c ++ flat level u) ++ es in
      let split : below_es ≡ flat (suc level) c ++ (flat level u ++ es) = append_assoc (flat (suc level) c) (flat level u) es in
      let inner = lowest-deep low (suc level) c (flat level u ++ es) (omega (arith, h, rest)) in
      ap (λ b. groups_before below_es low
      ++ cond b (id ∷ []) []) (not_lower level (lowest below_es low)
      (omega (arith, h, rest, inner, ap (λ x. lowest x low) split)))
      ∙ (append-nil (groups_before below_es low)
      ∙ (ap (λ x. groups_before x low) split
      ∙ (groups-deep low (suc level) c (flat level u ++ es) (omega (arith, h, rest)) ∙ groups-deep low level u es h)))

  lowest-front : (level : ℕ) (h : Hole N N) → lowest (front level h) (level + depth h) ≡ level
  lowest-front level here = omega arith
  lowest-front level (under_leaf id w h) = omega (arith, lowest-front level h)
  lowest-front level (under_group id w c h) =
      omega (
        arith,
        lowest-front level h,
        lowest-deep (level + depth h) (suc level) c (front level h) (omega (arith, lowest-front level h)),
      )
  lowest-front level (in_group id w h u) =
      let deeper : suc level + depth h ≡ level + suc (depth h) = omega arith in
      omega (arith, lowest-front (suc level) h, ap (lowest (front (suc level) h)) deeper)

  groups-front : (level : ℕ) (h : Hole N N) → groups_before (front level h) (level + depth h) ≡ groups h
  groups-front level here = refl
  groups-front level (under_leaf id w h) =
      ap (λ b. groups_before (front level h) (level + depth h)
      ++ cond b (id ∷ []) []) (not_lower level (lowest (front level h) (level + depth h)) (omega (arith, lowest-front level h)))
      ∙ (append-nil (groups_before (front level h) (level + depth h)) ∙ groups-front level h)
  groups-front level (under_group id w c h) =
      let es : List (NodeEntry N) = flat (suc level) c ++ front level h in
      let low = lowest-front level h in
      let deep = lowest-deep (level + depth h) (suc level) c (front level h) (omega (arith, low)) in
      ap (λ b. groups_before es (level + depth h)
      ++ cond b (id ∷ []) []) (not_lower level (lowest es (level + depth h)) (omega (arith, low, deep)))
      ∙ (append-nil (groups_before es (level + depth h))
      ∙ (groups-deep (level + depth h) (suc level) c (front level h) (omega (arith, low)) ∙ groups-front level h))
  groups-front level (in_group id w h u) =
      let deeper : level + suc (depth h) ≡ suc level + depth h = omega arith in
      let es : List (NodeEntry N) = front (suc level) h in
      let lower : nat_lt level (lowest es (suc level + depth h)) ≡ true =
      lt-ltb level (lowest es (suc level + depth h)) (omega (arith, lowest-front (suc level) h)) in
      ap (λ low. groups_before es low ++ cond (nat_lt level (lowest es low)) (id ∷ []) []) deeper
      ∙ (ap (λ b. groups_before es (suc level + depth h) ++ cond b (id ∷ []) []) lower
      ∙ ap (λ x. x ++ id ∷ []) (groups-front (suc level) h))

  -- one entry at the end
  lowest-push : (es : List (NodeEntry N)) (e : NodeEntry N) (level : ℕ) → lowest (es ++ e ∷ []) level ≡ lowest es (min e.level level)
  lowest-push [] e level = refl
  lowest-push (x ∷ es) e level = omega (arith, lowest-push es e level)

  groups_push : (es : List (NodeEntry N)) (e : NodeEntry N) (level : ℕ)
      → groups_before (es ++ e ∷ []) level ≡ cond (nat_lt e.level level) (e.id ∷ []) [] ++ groups_before es (min e.level level)
  groups_push [] e level = sym (append-nil (cond (nat_lt e.level level) (e.id ∷ []) []))
  groups_push (x ∷ es) e level =
      (λ i. groups_push es e level i ++ cond (nat_lt x.level (lowest-push es e level i)) (x.id ∷ []) [])
      ∙ append_assoc (cond (nat_lt e.level level) (e.id ∷ []) []) (groups_before es (min e.level level))
      (cond (nat_lt x.level (lowest es (min e.level level))) (x.id ∷ []) [])

  last_off : (es : List (NodeEntry N)) (at : ℕ) (e : NodeEntry N) → at < length es → e ≡ get_or es at e
      → take (at + 1) es ≡ take at es ++ e ∷ []
  last_off es at e h is = take_more es at e h ∙ ap (λ x. take at es ++ x ∷ []) (sym is)

  -- a group is next, and no group is next
  pub groups_next : (es : List (NodeEntry N)) (at level : ℕ) (e : NodeEntry N) → at < length es → e ≡ get_or es at e → e.level < level
      → groups_before (take (at + 1) es) level ≡ e.id ∷ groups_before (take at es) e.level
  groups_next es at level e h is lower =
      let least : min e.level level ≡ e.level = omega (arith, lower) in
      ap (λ x. groups_before x level) (last_off es at e h is)
      ∙ (groups_push (take at es) e level
      ∙ (λ i. cond (lt-ltb e.level level lower i) (e.id ∷ []) [] ++ groups_before (take at es) (least i)))

  pub groups_skip : (es : List (NodeEntry N)) (at level : ℕ) (e : NodeEntry N) → at < length es → e ≡ get_or es at e → level ≤ e.level
      → groups_before (take (at + 1) es) level ≡ groups_before (take at es) level
  groups_skip es at level e h is deeper =
      let least : min e.level level ≡ level = omega (arith, deeper) in
      ap (λ x. groups_before x level) (last_off es at e h is)
      ∙ (groups_push (take at es) e level
      ∙ (λ i. cond (not_lower e.level level deeper i) (e.id ∷ []) [] ++ groups_before (take at es) (least i)))

  -- the same, after the ids that were told so far
  pub told_next : (ids all : List ℕ) (es : List (NodeEntry N)) (at level : ℕ) (e : NodeEntry N) → 0 < at → at ≤ length es
      → e ≡ get_or es (at - 1) e → e.level < level → ids ++ groups_before (take at es) level ≡ all
      → (ids ++ e.id ∷ []) ++ groups_before (take (at - 1) es) e.level ≡ all
  told_next ids all es at level e some h is lower so_far =
      let one : (at - 1) + 1 ≡ at = omega (arith, some) in
      append_assoc ids (e.id ∷ []) (groups_before (take (at - 1) es) e.level)
      ∙ (ap (λ x. ids ++ x) (sym (groups_next es (at - 1) level e (omega (arith, some, h)) is lower)
      ∙ ap (λ k. groups_before (take k es) level) one) ∙ so_far)

  pub told_skip : (ids all : List ℕ) (es : List (NodeEntry N)) (at level : ℕ) (e : NodeEntry N) → 0 < at → at ≤ length es
      → e ≡ get_or es (at - 1) e → level ≤ e.level → ids ++ groups_before (take at es) level ≡ all
      → ids ++ groups_before (take (at - 1) es) level ≡ all
  told_skip ids all es at level e some h is deeper so_far =
      let one : (at - 1) + 1 ≡ at = omega (arith, some) in
      ap (λ x. ids ++ x) (sym (groups_skip es (at - 1) level e (omega (arith, some, h)) is deeper)
      ∙ ap (λ k. groups_before (take k es) level) one) ∙ so_far

  -- at the top there is no group above
  pub groups_top : (es : List (NodeEntry N)) → groups_before es 0 ≡ []
  groups_top [] = refl
  groups_top (e ∷ es) =
      (λ i. groups_top es i ++ cond (not_lower e.level (lowest es 0) (omega (arith, lowest_top es)) i) (e.id ∷ []) []) where
        lowest_top : (xs : List (NodeEntry N)) → lowest xs 0 ≡ 0
        lowest_top [] = refl
        lowest_top (x ∷ xs) = omega (arith, lowest_top xs)

  pub told_all : (ids all : List ℕ) (es : List (NodeEntry N)) (level : ℕ) → level ≡ 0 → ids ++ groups_before es level ≡ all → ids ≡ all
  told_all ids all es level z so_far =
      sym (append-nil ids) ∙ (ap (λ x. ids ++ x) (sym (groups_top es)) ∙ (ap (λ l. ids ++ groups_before es l) (sym z) ∙ so_far))

  -- the groups above what is found
  pub record Above (id : ℕ) (f : Forest N N) (es : List (NodeEntry N)) (e : NodeEntry N) (rest : List (NodeEntry N)) : Type 0 where
    pub above : groups_before (take (length es - length (e ∷ rest)) es) e.level ≡ unwrap_or (ancestors id f) []
    pub low : e.level ≤ 8
    pub within : length (e ∷ rest) ≤ length es

  pub above_found : (id : ℕ) (es : List (NodeEntry N)) (f : Forest N N) (e : NodeEntry N) (rest : List (NodeEntry N)) → AreSiblings 0 es
      → forest_of es ≡ f → from_id id es ≡ e ∷ rest → Above id f es e rest
  above_found id es f e rest s view_is some_is = from (standing id f) where
    flat_at : es ≡ flat 0 f
    flat_at = s.flat_is ∙ ap (flat 0) view_is

    all : from_id id (flat 0 f) ≡ e ∷ rest
    all = ap (from_id id) (sym flat_at) ∙ some_is

    made : (h : Hole N N) (x : Forest N N) → f ≡ plug h x → 1 ≤ levels x → flat (0 + depth h) x ++ back 0 h ≡ e ∷ rest
        → e.level ≡ depth h → ancestors id (plug h x) ≡ Some (groups h) → Above id f es e rest
    made h x is some next level_is anc =
        let split : es ≡ front 0 h ++ (e ∷ rest) = flat_at ∙ (ap (flat 0) is ∙ (flat-plug 0 h x ∙ ap (λ y. front 0 h ++ y) next)) in
        let length_is : length es ≡ length (front 0 h) + length (e ∷ rest) = ap length split
        ∙ length-append (front 0 h) (e ∷ rest) in
        let before_is : length (front 0 h) ≡ length es - length (e ∷ rest) = omega (arith, length_is) in
        let at : take (length es - length (e ∷ rest)) es ≡ front 0 h = ap (take (length es - length (e ∷ rest))) split
        ∙ take_at (front 0 h) (e ∷ rest) (length es - length (e ∷ rest)) before_is in
        let z : e.level ≡ 0 + depth h = omega (arith, level_is) in
        record {
          above =
              (λ i. groups_before (at i) (z i)) ∙ (groups-front 0 h ∙ ap (λ o. unwrap_or o []) (sym (ap (ancestors id) is ∙ anc)));
          low = omega (arith, s.low, level_is, some, depth_below_levels h x, ap levels is, ap levels view_is);
          within = omega (arith, length_is);
        }

    from : Standing id f → Above id f es e rest
    from (nowhere n) = let k = sym (from_id-nowhere id f n) ∙ all in cc
    from (at_leaf h w u is fresh) =
        let k = sym (from_id-leaf id f h w u is fresh) ∙ all in
        let first : entry_of (depth h) id false w ≡ e = cc in
        let z : 0 + depth h ≡ depth h = omega arith in
        made h (leaf id w u) is (omega arith) (ap (λ l. entry_of l id false w ∷ (flat (0 + depth h) u ++ back 0 h)) z
        ∙ k) (sym (ap (λ x. x.level) first)) (ancestors-plug id h (leaf id w u) fresh (ancestors-of_leaf id w u))
    from (at_group h w c u is fresh) =
        let k = sym (from_id-group id f h w c u is fresh) ∙ all in
        let first : entry_of (depth h) id true w ≡ e = cc in
        let z : 0 + depth h ≡ depth h = omega arith in
        made h (group id w c u) is (omega arith) (ap (λ l. entry_of l id true w ∷ ((flat (suc l) c ++ flat l u) ++ back 0 h)) z
        ∙ k) (sym (ap (λ x. x.level) first)) (ancestors-plug id h (group id w c u) fresh (ancestors-of_group id w c u))

  pub above_nothing : (id : ℕ) (es : List (NodeEntry N)) (f : Forest N N) → AreSiblings 0 es → forest_of es ≡ f → from_id id es ≡ []
      → [] ≡ unwrap_or (ancestors id f) []
  above_nothing id es f s view_is empty =
      ap (λ o. unwrap_or o []) (sym (ancestors-nowhere id f (found_none id es f (s.flat_is ∙ ap (flat 0) view_is) empty)))
