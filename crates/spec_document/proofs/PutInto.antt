-- A branch that is put into a stack stands in a hole.
use Rattle.std.proofs.Common.{◌≡◌, ℕ, ◌+◌, ◌≤◌, max, true, false, cond, eqb, nat_eq, [], ◌∷◌, ◌++◌, length, refl, sym}
use Rattle.std.proofs.Common.{◌∙◌, subst, ap, arith, length-append}
use Rattle.std.proofs.lemmas.Bool.{eqb-false}
use Rattle.std.specs.Prelude.{Some, option_map, unwrap_or}
use Rattle.std.specs.List.{IsDistinct, list_any}
use Rattle.spec_document.specs.Forest.{Forest, leaf, group, size, total, levels, ids, Found, nothing, a_leaf, a_group}
use Rattle.spec_document.specs.Forest.{or_else, find, first_of, ancestors}
use Rattle.spec_document.specs.Changes.{above, put_at, with_children, without}
use Rattle.spec_document.specs.Holes.{Hole, here, under_leaf, under_group, in_group, plug, depth, from_place}
use Rattle.spec_document.specs.Runs.{HasRun}
use Rattle.spec_document.proofs.Totals.{total-above}
use Rattle.spec_document.proofs.Holes.{into, plug-into, depth-into, levels-plug, depth_below_levels, size-plug, hole_at}
use Rattle.spec_document.proofs.Holes.{plug-hole_at, depth-hole_at, put_at-hole}
use Rattle.spec_document.proofs.Standing.{Fresh, Standing, nowhere, at_leaf, at_group, standing, groups, find-at_leaf}
use Rattle.spec_document.proofs.Standing.{ancestors-nowhere, ancestors-plug, ancestors-of_group}
use Rattle.spec_document.proofs.Distinct.{ids-above, untouched, walks-without, lone_leaf, lone_group}
use Rattle.spec_document.proofs.Distinct.{with_children-at_group, without-at_leaf, without-at_group}
use Rattle.spec_document.proofs.Outside.{kind, kind-plug, above_inside}
use Rattle.spec_document.proofs.Changed.{size-above, levels-above, total-plug, run_in_hole}

module _ {L G : Type 0} where
  -- where a branch is put in: the hole, and what comes under the branch there
  pub record PutIn (branch old new : Forest L G) (deep : ℕ) : Type 0 where
    pub hole : Hole L G
    pub under : Forest L G
    pub old_is : old ≡ plug hole under
    pub new_is : new ≡ plug hole (above branch under)
    pub depth_is : depth hole ≡ deep

  pub put_at_top : (place : ℕ) (branch f : Forest L G) → PutIn branch f (put_at branch place f) 0
  put_at_top place branch f = record {
    hole = hole_at place f;
    under = from_place place f;
    old_is = sym (plug-hole_at place f);
    new_is = put_at-hole branch place f;
    depth_is = depth-hole_at place f;
  }

  pub put_in_group : (id place : ℕ) (branch f : Forest L G) (h : Hole L G) (w : G) (c u : Forest L G) → IsDistinct nat_eq (ids f)
      → f ≡ plug h (group id w c u) → Fresh id h
      → PutIn branch f (with_children id (put_at branch place) f) (1 + depth h)
  put_in_group id place branch f h w c u d is fresh =
      let l = lone_group id h w c u (let P : Forest L G → Type 0 = λ x. IsDistinct nat_eq (ids x) in subst P is d) in
      let inner : Hole L G = in_group id w (hole_at place c) u in
      record {
        hole = into h inner;
        under = from_place place c;
        old_is =
            is ∙ (ap (λ x. plug h (group id w x u)) (sym (plug-hole_at place c)) ∙ sym (plug-into h inner (from_place place c)));
        new_is = ap (with_children id (put_at branch place)) is
            ∙ (with_children-at_group id (put_at branch place) h w c u fresh l
            ∙ (ap (λ x. plug h (group id w x u)) (put_at-hole branch place c)
            ∙ sym (plug-into h inner (above branch (from_place place c)))));
        depth_is = omega (arith, depth-into h inner, depth-hole_at place c);
      }

  -- ---- what is known of the new forest

  module _ (branch old new : Forest L G) (deep : ℕ) (p : PutIn branch old new deep) where
    pub size-put : size new ≡ size branch + size old
    size-put =
        let both = size-plug p.hole p.under (above branch p.under) in
        omega (arith, both, ap size p.old_is, ap size p.new_is, size-above branch p.under)

    pub total-put : (l : L → ℕ) (g : G → ℕ) → total l g new ≡ total l g branch + total l g old
    total-put l g =
        let both = total-plug l g p.hole p.under (above branch p.under) in
        omega (arith, both, ap (total l g) p.old_is, ap (total l g) p.new_is, total-above l g branch p.under)

    pub levels-put : levels new ≤ max (levels old) (deep + levels branch)
    levels-put =
        let most = levels-plug p.hole p.under (above branch p.under) in
        let lies = depth_below_levels p.hole p.under in
        omega (arith, most, lies, p.depth_is, ap levels p.old_is, ap levels p.new_is, levels-above branch p.under)

    pub ids-put : HasRun (ids branch) (ids old) (ids new)
    ids-put = run_in_hole p.hole (above branch p.under) p.under new old (ids branch) p.new_is p.old_is (ids-above branch p.under)

  -- ---- a group that is found

  is_group : (x y : Found L G) → x ≡ y → kind x ≡ 2 → kind y ≡ 0 → ⊥
  is_group x y e two zero_kind = eqb-false 2 0 refl (sym two ∙ (ap kind e ∙ zero_kind))

  not_leaf : (x y : Found L G) → x ≡ y → kind x ≡ 2 → kind y ≡ 1 → ⊥
  not_leaf x y e two one = eqb-false 2 1 refl (sym two ∙ (ap kind e ∙ one))

  length-groups : (h : Hole L G) → length (groups h) ≡ depth h
  length-groups here = refl
  length-groups (under_leaf i w h) = length-groups h
  length-groups (under_group i w c h) = length-groups h
  length-groups (in_group i w h u) = omega (arith, length-append (groups h) (i ∷ []), length-groups h)

  -- a branch that is put in at a place of a group which is there
  pub put_in_found : (id place : ℕ) (branch f : Forest L G) → IsDistinct nat_eq (ids f) → kind (find id f) ≡ 2
      → PutIn branch f (with_children id (put_at branch place) f) (1 + unwrap_or (option_map length (ancestors id f)) 0)
  put_in_found id place branch f d two = from (standing id f) where
    from : Standing id f → PutIn branch f (with_children id (put_at branch place) f)
        (1 + unwrap_or (option_map length (ancestors id f)) 0)
    from (nowhere n) = absurd (is_group (find id f) nothing n two refl)
    from (at_leaf h w u is fresh) =
        absurd (not_leaf (find id f) (a_leaf w) (ap (find id) is ∙ find-at_leaf id h w u fresh) two refl)
    from (at_group h w c u is fresh) =
        let above_it : ancestors id f ≡ Some (groups h) =
        ap (ancestors id) is ∙ ancestors-plug id h (group id w c u) fresh (ancestors-of_group id w c u) in
        let count : 1 + depth h ≡ 1 + unwrap_or (option_map length (ancestors id f)) 0 =
        ap (λ n. 1 + n) (sym (length-groups h)) ∙ ap (λ o. 1 + unwrap_or (option_map length o) 0) (sym above_it) in
        let P : ℕ → Type 0 = λ n. PutIn branch f (with_children id (put_at branch place) f) n in
        subst P count (put_in_group id place branch f h w c u d is fresh)

  -- ---- a stack outside a node that is taken out

  -- what is above a node outside a hole is the same, whatever is in the hole
  pub ancestors-hole : (p : ℕ) (h : Hole L G) (old new : Forest L G) → ancestors p old ≡ ancestors p new
      → ancestors p (plug h old) ≡ ancestors p (plug h new)
  ancestors-hole p here old new e = e
  ancestors-hole p (under_leaf i w h) old new e = ap (cond (eqb p i) (Some [])) (ancestors-hole p h old new e)
  ancestors-hole p (under_group i w c h) old new e =
      ap (λ o. cond (eqb p i) (Some []) (first_of (option_map (λ above. above ++ i ∷ []) (ancestors p c)) o))
      (ancestors-hole p h old new e)
  ancestors-hole p (in_group i w h u) old new e =
      ap (λ o. cond (eqb p i) (Some []) (first_of (option_map (λ above. above ++ i ∷ []) o) (ancestors p u)))
      (ancestors-hole p h old new e)

  not_found : (p : ℕ) (c : Forest L G) → ((find p c ≡ nothing → ⊥) → ⊥) → find p c ≡ nothing
  not_found p c h = from (find p c) refl where
    from : (x : Found L G) → find p c ≡ x → find p c ≡ nothing
    from nothing e = e
    from (a_leaf w) e = absurd (h (λ n. let k = sym e ∙ n in cc))
    from (a_group w d) e = absurd (h (λ n. let k = sym e ∙ n in cc))

  -- a node outside of another one stays where it is when that one is taken out
  pub record Stays (p : ℕ) (old new : Forest L G) : Type 0 where
    pub kind_is : kind (find p new) ≡ kind (find p old)
    pub above_is : ancestors p new ≡ ancestors p old

  pub stays_outside : (p id : ℕ) (f : Forest L G) → IsDistinct nat_eq (ids f) → eqb p id ≡ false
      → list_any (λ i. eqb i id) (unwrap_or (ancestors p f) []) ≡ false
      → Stays p f (without id f)
  stays_outside p id f d ne outside = from (standing id f) where
    P : Forest L G → Type 0
    P x = IsDistinct nat_eq (ids x)

    stays : (h : Hole L G) (old new : Forest L G) → f ≡ plug h old → without id f ≡ plug h new
        → kind (find p old) ≡ kind (find p new) → ancestors p old ≡ ancestors p new → Stays p f (without id f)
    stays h old new is gone kinds aboves = record {
      kind_is = ap (λ x. kind (find p x)) gone ∙ (sym (kind-plug p h old new kinds) ∙ ap (λ x. kind (find p x)) (sym is));
      above_is = ap (ancestors p) gone ∙ (sym (ancestors-hole p h old new aboves) ∙ ap (ancestors p) (sym is));
    }

    from : Standing id f → Stays p f (without id f)
    from (nowhere n) =
        let same = untouched id (without id) (walks-without id) f n in
        record { kind_is = ap (λ x. kind (find p x)) same; above_is = ap (ancestors p) same }
    from (at_leaf h w u is fresh) =
        let l = lone_leaf id h w u (subst P is d) in
        stays h (leaf id w u) u is (ap (without id) is ∙ without-at_leaf id h w u fresh l)
        (ap (λ b. kind (cond b (a_leaf w) (find p u))) ne) (ap (λ b. cond b (Some []) (ancestors p u)) ne)
    from (at_group h w c u is fresh) =
        let dd = subst P is d in
        let l = lone_group id h w c u dd in
        let outside_c : find p c ≡ nothing = not_found p c (λ some.
        let wrong : true ≡ false = sym (above_inside p id h w c u dd ne some)
        ∙ (ap (λ x. list_any (λ i. eqb i id) (unwrap_or (ancestors p x) [])) (sym is) ∙ outside) in
        cc) in
        stays h (group id w c u) u is (ap (without id) is ∙ without-at_group id h w c u fresh l)
        (ap (λ b. kind (cond b (a_group w c) (or_else (find p c) (find p u)))) ne ∙ ap (λ x. kind (or_else x (find p u))) outside_c)
        (ap (λ b. cond b (Some []) (first_of (option_map (λ above. above ++ id ∷ []) (ancestors p c)) (ancestors p u))) ne
        ∙ ap (λ o. first_of (option_map (λ above. above ++ id ∷ []) o) (ancestors p u)) (ancestors-nowhere p c outside_c))
