-- A stack outside a branch is, without the branch, what it was without it.
use Rattle.std.proofs.Common.{◌≡◌, ℕ, ◌+◌, max, Bool, true, false, cond, eqb, nat_eq, [], refl, sym, ◌∙◌, ap, subst, arith, eq-eqb}
use Rattle.std.specs.Prelude.{Option, Some, None, option_map, unwrap_or, ◌||◌}
use Rattle.std.specs.List.{IsDistinct, list_any}
use Rattle.spec_document.specs.Forest.{Forest, none, leaf, group, ids, count, levels, Found, nothing, a_leaf, a_group}
use Rattle.spec_document.specs.Forest.{or_else, find, children_of, stack_at, ancestors}
use Rattle.spec_document.specs.Changes.{without, branch_of}
use Rattle.spec_document.specs.Holes.{Hole, here, under_leaf, under_group, in_group, plug}
use Rattle.spec_document.proofs.Standing.{Fresh, Standing, nowhere, at_leaf, at_group, standing, find-at_leaf}
use Rattle.spec_document.proofs.Standing.{find-at_group, lacks_leaf, lacks_group}
use Rattle.spec_document.proofs.Distinct.{Lone, untouched, walks-without, walks-plug, lone_leaf, lone_group}
use Rattle.spec_document.proofs.Distinct.{without-at_leaf, without-at_group, branch_of-nowhere, branch_of-at_leaf}
use Rattle.spec_document.proofs.Distinct.{branch_of-at_group}
use Rattle.spec_document.proofs.Outside.{above_inside}
use Rattle.xl_tree.specs.Reads.{levels_of}
use Rattle.xl_edit.specs.Children.{is_at_top, is_child}

-- what is found, with its children without a node
abbrev pub found_without : {L G : Type 0} → (id : ℕ) → Found L G → Found L G
found_without id nothing = nothing
found_without id (a_leaf w) = a_leaf w
found_without id (a_group w c) = a_group w (without id c)

-- 1 where it holds
abbrev pub one : Bool → ℕ
one true = 1
one false = 0

module _ {L G : Type 0} where
  or_without : (id : ℕ) (a b : Found L G) → found_without id (or_else a b) ≡ or_else (found_without id a) (found_without id b)
  or_without id nothing b = refl
  or_without id (a_leaf w) b = refl
  or_without id (a_group w c) b = refl

  cond_without : (id : ℕ) (test : Bool) (a b : Found L G)
      → found_without id (cond test a b) ≡ cond test (found_without id a) (found_without id b)
  cond_without id true a b = refl
  cond_without id false a b = refl

  -- where there is no such node, all stays
  same_found : (id p : ℕ) (f : Forest L G) → find id f ≡ nothing → found_without id (find p f) ≡ find p f
  same_found id p none n = refl
  same_found id p (leaf i w u) n =
      let l = lacks_leaf w (find id u) (eqb id i) n in
      cond_without id (eqb p i) (a_leaf w) (find p u) ∙ ap (cond (eqb p i) (a_leaf w)) (same_found id p u l.1)
  same_found id p (group i w c u) n =
      let l = lacks_group w c (find id c) (find id u) (eqb id i) n in
      cond_without id (eqb p i) (a_group w c) (or_else (find p c) (find p u))
      ∙ (λ j. cond (eqb p i) (a_group w (untouched id (without id) (walks-without id) c l.1 j))
      ((or_without id (find p c) (find p u) ∙ (λ k. or_else (same_found id p c l.1 k) (same_found id p u l.2 k))) j))

  -- the node stands in the hole, with what is under it
  found_plug : (id p : ℕ) (h : Hole L G) (x u : Forest L G) → Fresh id h → Lone id h → without id x ≡ u
      → found_without id (find p x) ≡ find p u
      → found_without id (find p (plug h x)) ≡ find p (plug h u)
  found_plug id p here x u fresh lone taken e = e
  found_plug id p (under_leaf i w h) x u fresh lone taken e =
      cond_without id (eqb p i) (a_leaf w) (find p (plug h x))
      ∙ ap (cond (eqb p i) (a_leaf w)) (found_plug id p h x u fresh.1 lone taken e)
  found_plug id p (under_group i w c h) x u fresh lone taken e =
      cond_without id (eqb p i) (a_group w c) (or_else (find p c) (find p (plug h x)))
      ∙ (λ j. cond (eqb p i) (a_group w (untouched id (without id) (walks-without id) c fresh.1 j))
      ((or_without id (find p c) (find p (plug h x))
      ∙ (λ k. or_else (same_found id p c fresh.1 k) (found_plug id p h x u fresh.2 lone taken e k))) j))
  found_plug id p (in_group i w h y) x u fresh lone taken e =
      cond_without id (eqb p i) (a_group w (plug h x)) (or_else (find p (plug h x)) (find p y))
      ∙ (λ j. cond (eqb p i) (a_group w ((walks-plug id (without id) (walks-without id) h x fresh.1 lone.1 ∙ ap (plug h) taken) j))
      ((or_without id (find p (plug h x)) (find p y)
      ∙ (λ k. or_else (found_plug id p h x u fresh.1 lone.1 taken e k) (same_found id p y lone.0 k))) j))

  not_found : (x : Found L G) → ((x ≡ nothing → ⊥) → ⊥) → x ≡ nothing
  not_found nothing h = refl
  not_found (a_leaf w) h = absurd (h (λ e. cc))
  not_found (a_group w c) h = absurd (h (λ e. cc))

  -- what is found outside the branch is as it was, without it
  pub found_outside : (id p : ℕ) (f : Forest L G) → IsDistinct nat_eq (ids f) → eqb p id ≡ false
      → list_any (λ i. eqb i id) (unwrap_or (ancestors p f) []) ≡ false
      → found_without id (find p f) ≡ find p (without id f)
  found_outside id p f distinct other not_above = from (standing id f) where
    P : Forest L G → Type 0
    P x = IsDistinct nat_eq (ids x)

    Q : Forest L G → Type 0
    Q x = found_without id (find p x) ≡ find p (without id x)

    from : Standing id f → Q f
    from (nowhere n) = same_found id p f n ∙ ap (find p) (sym (untouched id (without id) (walks-without id) f n))
    from (at_leaf h w u is fresh) =
        let l = lone_leaf id h w u (subst P is distinct) in
        let taken : without id (leaf id w u) ≡ u = ap (λ b. cond b u (leaf id w (without id u))) (eq-eqb id id refl) in
        let beside : found_without id (find p (leaf id w u)) ≡ find p u =
        ap (λ b. found_without id (cond b (a_leaf w) (find p u))) other ∙ same_found id p u l.under in
        let there : Q (plug h (leaf id w u)) =
        found_plug id p h (leaf id w u) u fresh l.lone taken beside ∙ ap (find p) (sym (without-at_leaf id h w u fresh l)) in
        subst Q (sym is) there
    from (at_group h w c u is fresh) =
        let d = subst P is distinct in
        let l = lone_group id h w c u d in
        let taken : without id (group id w c u) ≡ u =
        ap (λ b. cond b u (group id w (without id c) (without id u))) (eq-eqb id id refl) in
        let outside : find p c ≡ nothing = not_found (find p c) (λ some.
        let wrong : true ≡ false = sym (above_inside p id h w c u d other some)
        ∙ (ap (λ x. list_any (λ i. eqb i id) (unwrap_or (ancestors p x) [])) (sym is) ∙ not_above) in
        cc) in
        let beside : found_without id (find p (group id w c u)) ≡ find p u =
        ap (λ b. found_without id (cond b (a_group w c) (or_else (find p c) (find p u)))) other
        ∙ (ap (λ x. found_without id (or_else x (find p u))) outside ∙ same_found id p u l.under) in
        let there : Q (plug h (group id w c u)) =
        found_plug id p h (group id w c u) u fresh l.lone taken beside ∙ ap (find p) (sym (without-at_group id h w c u fresh l)) in
        subst Q (sym is) there

  children_without : (id : ℕ) (found : Found L G)
      → option_map (without id) (children_of found) ≡ children_of (found_without id found)
  children_without id nothing = refl
  children_without id (a_leaf w) = refl
  children_without id (a_group w c) = refl

  option_cond : (id : ℕ) (test : Bool) (f : Forest L G) (o : Option (Forest L G))
      → option_map (without id) (cond test (Some f) o) ≡ cond test (Some (without id f)) (option_map (without id) o)
  option_cond id true f o = refl
  option_cond id false f o = refl

  pub stack_outside : (id p : ℕ) (f : Forest L G) → IsDistinct nat_eq (ids f) → eqb p id ≡ false
      → list_any (λ i. eqb i id) (unwrap_or (ancestors p f) []) ≡ false
      → option_map (without id) (stack_at p f) ≡ stack_at p (without id f)
  stack_outside id p f distinct other not_above =
      option_cond id (eqb p 0) f (children_of (find p f))
      ∙ ap (cond (eqb p 0) (Some (without id f))) (children_without id (find p f)
      ∙ ap children_of (found_outside id p f distinct other not_above))

  -- ---- how many are left

  pub fewer_at_top : (id : ℕ) (f : Forest L G) → count (without id f) + one (is_at_top id f) ≡ count f
  fewer_at_top id none = refl
  fewer_at_top id (leaf i w u) = from (eqb id i) (fewer_at_top id u) where
    from : (b : Bool) → count (without id u) + one (is_at_top id u) ≡ count u
        → count (cond b u (leaf i w (without id u))) + one (b || is_at_top id u) ≡ 1 + count u
    from true e = omega arith
    from false e = omega (arith, e)
  fewer_at_top id (group i w c u) = from (eqb id i) (fewer_at_top id u) where
    from : (b : Bool) → count (without id u) + one (is_at_top id u) ≡ count u
        → count (cond b u (group i w (without id c) (without id u))) + one (b || is_at_top id u) ≡ 1 + count u
    from true e = omega arith
    from false e = omega (arith, e)

  fewer_children : (id : ℕ) (o : Option (Forest L G))
      → unwrap_or (option_map count (option_map (without id) o)) 0 + one (is_child id o) ≡ unwrap_or (option_map count o) 0
  fewer_children id None = refl
  fewer_children id (Some f) = fewer_at_top id f

  -- a stack outside the branch has one node less where the node is its child
  pub children_left : (id p : ℕ) (f : Forest L G) → IsDistinct nat_eq (ids f) → eqb p id ≡ false
      → list_any (λ i. eqb i id) (unwrap_or (ancestors p f) []) ≡ false
      → unwrap_or (option_map count (stack_at p (without id f))) 0 + one (is_child id (stack_at p f))
      ≡ unwrap_or (option_map count (stack_at p f)) 0
  children_left id p f distinct other not_above =
      ap (λ o. unwrap_or (option_map count o) 0 + one (is_child id (stack_at p f)))
      (sym (stack_outside id p f distinct other not_above))
      ∙ fewer_children id (stack_at p f)

-- the levels from a node down are those of its branch
pub levels_found : {N : Type 0} (id : ℕ) (t : Forest N N) → IsDistinct nat_eq (ids t)
    → levels_of (find id t) ≡ levels (branch_of id t)
levels_found {N} id t distinct = from (standing id t) where
  P : Forest N N → Type 0
  P x = IsDistinct nat_eq (ids x)

  Q : Forest N N → Type 0
  Q x = levels_of (find id x) ≡ levels (branch_of id x)

  from : Standing id t → Q t
  from (nowhere n) = ap levels_of n ∙ sym (ap levels (branch_of-nowhere id t n))
  from (at_leaf h w u is fresh) =
      let l = lone_leaf id h w u (subst P is distinct) in
      let there : Q (plug h (leaf id w u)) = ap levels_of (find-at_leaf id h w u fresh)
      ∙ sym (ap levels (branch_of-at_leaf id h w u fresh l)) in
      subst Q (sym is) there
  from (at_group h w c u is fresh) =
      let l = lone_group id h w c u (subst P is distinct) in
      let alone : 1 + levels c ≡ max (1 + levels c) 0 = omega arith in
      let there : Q (plug h (group id w c u)) =
      ap levels_of (find-at_group id h w c u fresh) ∙ (alone ∙ sym (ap levels (branch_of-at_group id h w c u fresh l))) in
      subst Q (sym is) there
