-- What a change leaves of the size, the levels, the sums and the ids of a forest.
use Rattle.std.proofs.Common.{◌≡◌, ℕ, ◌+◌, ◌≤◌, max, Bool, true, false, cond, eqb, nat_eq, List, [], ◌∷◌, ◌++◌, refl}
use Rattle.std.proofs.Common.{sym, ◌∙◌, subst, ap, arith, append_assoc}
use Rattle.std.proofs.lemmas.List.{append-nil}
use Rattle.std.specs.List.{IsDistinct}
use Rattle.spec_document.specs.Forest.{Forest, none, leaf, group, size, total, levels, ids}
use Rattle.spec_document.specs.Changes.{above, with_leaf, with_group, without, branch_of}
use Rattle.spec_document.specs.Holes.{Hole, here, under_leaf, under_group, in_group, plug}
use Rattle.spec_document.specs.Runs.{HasRun}
use Rattle.spec_document.proofs.Totals.{total-above}
use Rattle.spec_document.proofs.Standing.{Fresh, Standing, nowhere, at_leaf, at_group, standing}
use Rattle.spec_document.proofs.Distinct.{untouched, walks-without, branch_of-nowhere, lone_leaf, lone_group}
use Rattle.spec_document.proofs.Distinct.{with_leaf-at_leaf, without-at_leaf, without-at_group, branch_of-at_leaf}
use Rattle.spec_document.proofs.Distinct.{branch_of-at_group}

-- what holds of both ways holds of the one that is taken
pub either : {A : Type 0} (P : A → Type 0) (b : Bool) (x y : A) → P x → P y → P (cond b x y)
either P true x y p q = p
either P false x y p q = q

module _ {L G : Type 0} where
  -- ---- a node changed where it stands

  pub size-with_leaf : (id : ℕ) (change : L → L) (f : Forest L G) → size (with_leaf id change f) ≡ size f
  size-with_leaf id change none = refl
  size-with_leaf id change (leaf i w u) = omega (arith, size-with_leaf id change u)
  size-with_leaf id change (group i w c u) = omega (arith, size-with_leaf id change c, size-with_leaf id change u)

  pub size-with_group : (id : ℕ) (change : G → G) (f : Forest L G) → size (with_group id change f) ≡ size f
  size-with_group id change none = refl
  size-with_group id change (leaf i w u) = omega (arith, size-with_group id change u)
  size-with_group id change (group i w c u) = omega (arith, size-with_group id change c, size-with_group id change u)

  pub levels-with_leaf : (id : ℕ) (change : L → L) (f : Forest L G) → levels (with_leaf id change f) ≡ levels f
  levels-with_leaf id change none = refl
  levels-with_leaf id change (leaf i w u) = ap (max 1) (levels-with_leaf id change u)
  levels-with_leaf id change (group i w c u) = λ k. max (1 + levels-with_leaf id change c k) (levels-with_leaf id change u k)

  pub levels-with_group : (id : ℕ) (change : G → G) (f : Forest L G) → levels (with_group id change f) ≡ levels f
  levels-with_group id change none = refl
  levels-with_group id change (leaf i w u) = ap (max 1) (levels-with_group id change u)
  levels-with_group id change (group i w c u) = λ k. max (1 + levels-with_group id change c k) (levels-with_group id change u k)

  pub ids-with_leaf : (id : ℕ) (change : L → L) (f : Forest L G) → ids (with_leaf id change f) ≡ ids f
  ids-with_leaf id change none = refl
  ids-with_leaf id change (leaf i w u) = ap (λ xs. i ∷ xs) (ids-with_leaf id change u)
  ids-with_leaf id change (group i w c u) = λ k. i ∷ (ids-with_leaf id change c k ++ ids-with_leaf id change u k)

  pub ids-with_group : (id : ℕ) (change : G → G) (f : Forest L G) → ids (with_group id change f) ≡ ids f
  ids-with_group id change none = refl
  ids-with_group id change (leaf i w u) = ap (λ xs. i ∷ xs) (ids-with_group id change u)
  ids-with_group id change (group i w c u) = λ k. i ∷ (ids-with_group id change c k ++ ids-with_group id change u k)

  pub total-with_leaf : (l : L → ℕ) (g : G → ℕ) (id : ℕ) (change : L → L) → ((w : L) → l (change w) ≤ l w) → (f : Forest L G)
      → total l g (with_leaf id change f) ≤ total l g f
  total-with_leaf l g id change less none = omega arith
  total-with_leaf l g id change less (leaf i w u) =
      let here_less : l (cond (eqb id i) (change w) w) ≤ l w = at_test (eqb id i) in
      let rest = total-with_leaf l g id change less u in
      omega arith where
        at_test : (b : Bool) → l (cond b (change w) w) ≤ l w
        at_test true = less w
        at_test false = omega arith
  total-with_leaf l g id change less (group i w c u) =
      omega (arith, total-with_leaf l g id change less c, total-with_leaf l g id change less u)

  pub total-with_group : (l : L → ℕ) (g : G → ℕ) (id : ℕ) (change : G → G) → ((w : G) → g (change w) ≤ g w) → (f : Forest L G)
      → total l g (with_group id change f) ≤ total l g f
  total-with_group l g id change less none = omega arith
  total-with_group l g id change less (leaf i w u) = omega (arith, total-with_group l g id change less u)
  total-with_group l g id change less (group i w c u) =
      let here_less : g (cond (eqb id i) (change w) w) ≤ g w = at_test (eqb id i) in
      let first = total-with_group l g id change less c in
      let rest = total-with_group l g id change less u in
      omega arith where
        at_test : (b : Bool) → g (cond b (change w) w) ≤ g w
        at_test true = less w
        at_test false = omega arith

  -- ---- what is in a hole

  pub total-plug : (l : L → ℕ) (g : G → ℕ) (h : Hole L G) (old new : Forest L G)
      → total l g (plug h new) + total l g old ≡ total l g (plug h old) + total l g new
  total-plug l g here old new = omega arith
  total-plug l g (under_leaf i w h) old new = omega (arith, total-plug l g h old new)
  total-plug l g (under_group i w c h) old new = omega (arith, total-plug l g h old new)
  total-plug l g (in_group i w h u) old new = omega (arith, total-plug l g h old new)

  abbrev pub ids_before : Hole L G → List ℕ
  ids_before here = []
  ids_before (under_leaf i w h) = i ∷ ids_before h
  ids_before (under_group i w c h) = i ∷ (ids c ++ ids_before h)
  ids_before (in_group i w h u) = i ∷ ids_before h

  abbrev pub ids_after : Hole L G → List ℕ
  ids_after here = []
  ids_after (under_leaf i w h) = ids_after h
  ids_after (under_group i w c h) = ids_after h
  ids_after (in_group i w h u) = ids_after h ++ ids u

  pub ids-plug : (h : Hole L G) (f : Forest L G) → ids (plug h f) ≡ ids_before h ++ (ids f ++ ids_after h)
  ids-plug here f = sym (append-nil (ids f))
  ids-plug (under_leaf i w h) f = ap (λ xs. i ∷ xs) (ids-plug h f)
  ids-plug (under_group i w c h) f =
      ap (λ xs. i ∷ xs) (ap (λ xs. ids c ++ xs) (ids-plug h f) ∙ sym (append_assoc (ids c) (ids_before h) (ids f ++ ids_after h)))
  ids-plug (in_group i w h u) f =
      ap (λ xs. i ∷ xs)
      (ap (λ xs. xs ++ ids u) (ids-plug h f)
      ∙ (append_assoc (ids_before h) (ids f ++ ids_after h) (ids u)
      ∙ ap (λ xs. ids_before h ++ xs) (append_assoc (ids f) (ids_after h) (ids u))))

  -- a leaf that is found, where ids are distinct
  pub total-with_leaf_found : (l : L → ℕ) (g : G → ℕ) (id : ℕ) (change : L → L) (h : Hole L G) (w : L) (u : Forest L G) → Fresh id h
      → IsDistinct nat_eq (ids (plug h (leaf id w u)))
      → total l g (with_leaf id change (plug h (leaf id w u))) + l w ≡ total l g (plug h (leaf id w u)) + l (change w)
  total-with_leaf_found l g id change h w u fresh d =
      let new = with_leaf-at_leaf id change h w u fresh (lone_leaf id h w u d) in
      let same = ap (total l g) new in
      let both : total l g (plug h (leaf id (change w) u)) + (l w + total l g u)
      ≡ total l g (plug h (leaf id w u)) + (l (change w) + total l g u) =
      total-plug l g h (leaf id w u) (leaf id (change w) u) in
      omega arith

  pub size-above : (a b : Forest L G) → size (above a b) ≡ size a + size b
  size-above none b = omega arith
  size-above (leaf id w u) b = omega (arith, size-above u b)
  size-above (group id w c u) b = omega (arith, size-above u b)

  pub levels-above : (a b : Forest L G) → levels (above a b) ≡ max (levels a) (levels b)
  levels-above none b = omega arith
  levels-above (leaf id w u) b = omega (arith, levels-above u b)
  levels-above (group id w c u) b = omega (arith, levels-above u b)

  -- ---- a node and all below it taken out

  pub size-taken : (id : ℕ) (f : Forest L G) → size (branch_of id f) + size (without id f) ≡ size f
  size-taken id none = refl
  size-taken id (leaf i w u) = at_test (eqb id i) (size-taken id u) where
    at_test : (b : Bool) → size (branch_of id u) + size (without id u) ≡ size u
        → size (cond b (leaf i w none) (branch_of id u)) + size (cond b u (leaf i w (without id u))) ≡ 1 + size u
    at_test true p = omega arith
    at_test false p = omega arith
  size-taken id (group i w c u) = at_test (eqb id i) (size-taken id c) (size-taken id u) where
    at_test : (b : Bool) → size (branch_of id c) + size (without id c) ≡ size c
        → size (branch_of id u) + size (without id u) ≡ size u
        → size (cond b (group i w c none) (above (branch_of id c) (branch_of id u)))
        + size (cond b u (group i w (without id c) (without id u))) ≡ 1 + size c + size u
    at_test true p q = omega arith
    at_test false p q = omega (arith, p, q, size-above (branch_of id c) (branch_of id u))

  pub levels-without : (id : ℕ) (f : Forest L G) → levels (without id f) ≤ levels f
  levels-without id none = omega arith
  levels-without id (leaf i w u) = at_test (eqb id i) (levels-without id u) where
    at_test : (b : Bool) → levels (without id u) ≤ levels u → levels (cond b u (leaf i w (without id u))) ≤ max 1 (levels u)
    at_test true p = omega arith
    at_test false p = omega arith
  levels-without id (group i w c u) = at_test (eqb id i) (levels-without id c) (levels-without id u) where
    at_test : (b : Bool) → levels (without id c) ≤ levels c → levels (without id u) ≤ levels u
        → levels (cond b u (group i w (without id c) (without id u))) ≤ max (1 + levels c) (levels u)
    at_test true p q = omega arith
    at_test false p q = omega arith

  -- what is taken out and what stays add up
  pub total-taken : (l : L → ℕ) (g : G → ℕ) (id : ℕ) (f : Forest L G)
      → total l g (branch_of id f) + total l g (without id f) ≡ total l g f
  total-taken l g id none = refl
  total-taken l g id (leaf i w u) = at_test (eqb id i) (total-taken l g id u) where
    at_test : (b : Bool) → total l g (branch_of id u) + total l g (without id u) ≡ total l g u
        → total l g (cond b (leaf i w none) (branch_of id u)) + total l g (cond b u (leaf i w (without id u))) ≡ l w + total l g u
    at_test true p = omega arith
    at_test false p = omega arith
  total-taken l g id (group i w c u) = at_test (eqb id i) (total-taken l g id c) (total-taken l g id u) where
    at_test : (b : Bool) → total l g (branch_of id c) + total l g (without id c) ≡ total l g c
        → total l g (branch_of id u) + total l g (without id u) ≡ total l g u
        → total l g (cond b (group i w c none) (above (branch_of id c) (branch_of id u)))
        + total l g (cond b u (group i w (without id c) (without id u)))
        ≡ g w + (total l g c + total l g u)
    at_test true p q = omega arith
    at_test false p q = omega (arith, p, q, total-above l g (branch_of id c) (branch_of id u))

  pub run_in_hole : (h : Hole L G) (branch under whole rest : Forest L G) (run : List ℕ) → whole ≡ plug h branch
      → rest ≡ plug h under → ids branch ≡ run ++ ids under
      → HasRun run (ids rest) (ids whole)
  run_in_hole h branch under whole rest run whole_at rest_at parts = record {
    before = ids_before h;
    after = ids under ++ ids_after h;
    rest_is = ap ids rest_at ∙ ids-plug h under;
    whole_is = ap ids whole_at ∙ (ids-plug h branch
        ∙ ap (λ xs. ids_before h ++ xs) (ap (λ xs. xs ++ ids_after h) parts ∙ append_assoc run (ids under) (ids_after h)));
  }

  -- the ids that are taken out stood side by side
  pub ids-taken : (id : ℕ) (f : Forest L G) → IsDistinct nat_eq (ids f) → HasRun (ids (branch_of id f)) (ids (without id f)) (ids f)
  ids-taken id f d = from (standing id f) where
    P : Forest L G → Type 0
    P x = IsDistinct nat_eq (ids x)

    from : Standing id f → HasRun (ids (branch_of id f)) (ids (without id f)) (ids f)
    from (nowhere n) =
        let same = ap ids (untouched id (without id) (walks-without id) f n) in
        record {
          before = ids f;
          after = [];
          rest_is = same ∙ sym (append-nil (ids f));
          whole_is = sym (ap (λ x. ids f ++ (ids x ++ [])) (branch_of-nowhere id f n) ∙ append-nil (ids f));
        }
    from (at_leaf h w u is fresh) =
        let l = lone_leaf id h w u (subst P is d) in
        let gone = ap (without id) is ∙ without-at_leaf id h w u fresh l in
        let out = ap (branch_of id) is ∙ branch_of-at_leaf id h w u fresh l in
        let run : id ∷ [] ≡ ids (branch_of id f) = ap ids (sym out) in
        run_in_hole h (leaf id w u) u f (without id f) (ids (branch_of id f)) is gone (ap (λ xs. xs ++ ids u) run)
    from (at_group h w c u is fresh) =
        let l = lone_group id h w c u (subst P is d) in
        let gone = ap (without id) is ∙ without-at_group id h w c u fresh l in
        let out = ap (branch_of id) is ∙ branch_of-at_group id h w c u fresh l in
        let run : (id ∷ ids c) ++ [] ≡ ids (branch_of id f) = append-nil (id ∷ ids c)
        ∙ (ap (λ xs. id ∷ xs) (sym (append-nil (ids c))) ∙ ap ids (sym out)) in
        let first : id ∷ ids c ≡ ids (branch_of id f) = sym (append-nil (id ∷ ids c)) ∙ run in
        run_in_hole h (group id w c u) u f (without id f) (ids (branch_of id f)) is gone (ap (λ xs. xs ++ ids u) first)

  pub levels-branch_of : (id : ℕ) (f : Forest L G) → levels (branch_of id f) ≤ levels f
  levels-branch_of id none = omega arith
  levels-branch_of id (leaf i w u) = at_test (eqb id i) (levels-branch_of id u) where
    at_test : (b : Bool) → levels (branch_of id u) ≤ levels u → levels (cond b (leaf i w none) (branch_of id u)) ≤ max 1 (levels u)
    at_test true p = omega arith
    at_test false p = omega arith
  levels-branch_of id (group i w c u) = at_test (eqb id i) (levels-branch_of id c) (levels-branch_of id u) where
    at_test : (b : Bool) → levels (branch_of id c) ≤ levels c → levels (branch_of id u) ≤ levels u
        → levels (cond b (group i w c none) (above (branch_of id c) (branch_of id u))) ≤ max (1 + levels c) (levels u)
    at_test true p q = omega arith
    at_test false p q = omega (arith, p, q, levels-above (branch_of id c) (branch_of id u))
