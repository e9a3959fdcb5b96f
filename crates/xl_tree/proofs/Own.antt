-- The ids of a tree stay the nodes' own.
use Rattle.std.proofs.Common.{◌≡◌, ℕ, ◌≤◌, arith, Bool, true, false, eqb, nat_eq, List, [], ◌∷◌, ◌++◌, refl, sym, ◌∙◌, subst, ap}
use Rattle.std.specs.List.{AllByRecursion, IsDistinct}
use Rattle.std.proofs.lemmas.Map.Keys.{IsDistinct-cons}
use Rattle.std.specs.Prelude.{Option, Some, None, option_map}
use Rattle.std.proofs.lemmas.List.{append-nil}
use Rattle.spec_document.specs.Forest.{Forest, none, leaf, group, ids, nothing, find}
use Rattle.spec_document.specs.Changes.{above, put_into, put_last, without, branch_of, with_leaf}
use Rattle.spec_document.specs.Holes.{Hole, plug}
use Rattle.spec_document.specs.Runs.{HasRun}
use Rattle.spec_document.proofs.Runs.{all-join, run-distinct, parts-distinct, run-all, rest-all, all-run, rest-distinct}
use Rattle.spec_document.proofs.Distinct.{IsNot, distinct-left, ids-above}
use Rattle.spec_document.proofs.Holes.{hole_last, plug-hole_last, put_last-hole}
use Rattle.spec_document.proofs.Changed.{run_in_hole, ids-taken, ids-with_leaf, ids-with_group}
use Rattle.spec_document.proofs.Standing.{lacks_leaf, lacks_group}
use Rattle.xl_tree.specs.declared.entries.NodeEntry.{NodeEntry}
use Rattle.xl_tree.specs.Flat.{forest_of}
use Rattle.xl_tree.specs.Ids.{AreOwn, IsNew}
use Rattle.xl_tree.specs.Kept.{AreSiblings}
use Rattle.xl_tree.specs.Places.{alone}
use Rattle.xl_tree.specs.Slots.{IsSlot}
use Rattle.xl_tree.specs.Writes.{with_node}

-- a run of ids that is put among others
pub own_joined : (run rest whole : List ℕ) → HasRun run rest whole → AreOwn run → AreOwn rest → IsDistinct nat_eq (run ++ rest)
    → AreOwn whole
own_joined run rest whole r a b d = record {
  distinct = run-distinct run rest whole r d;
  positive = run-all run rest whole r (λ id. 1 ≤ id) a.positive b.positive;
}

module _ {L G : Type 0} where
  pub not_there : (id : ℕ) (f : Forest L G) → find id f ≡ nothing → AllByRecursion (IsNot id) (ids f)
  not_there id none n = tt
  not_there id (leaf i w u) n =
      let l = lacks_leaf w (find id u) (eqb id i) n in
      (l.0, not_there id u l.1)
  not_there id (group i w c u) n =
      let l = lacks_group w c (find id c) (find id u) (eqb id i) n in
      (l.0, all-join (IsNot id) (ids c) (ids u) (not_there id c l.1) (not_there id u l.2))

  -- the same forest
  pub own_same : (x y : Forest L G) → x ≡ y → AreOwn (ids x) → AreOwn (ids y)
  own_same x y e o = let P : Forest L G → Type 0 = λ z. AreOwn (ids z) in subst P e o

  -- a branch that is put into a hole
  pub own_put : (h : Hole L G) (branch under old new : Forest L G) → old ≡ plug h under → new ≡ plug h (above branch under)
      → AreOwn (ids branch) → AreOwn (ids old) → IsDistinct nat_eq (ids branch ++ ids old) → AreOwn (ids new)
  own_put h branch under old new old_is new_is a b d =
      own_joined (ids branch) (ids old) (ids new)
      (run_in_hole h (above branch under) under new old (ids branch) new_is old_is (ids-above branch under)) a b d

  -- what is left, what was taken out, and both together
  pub own_without : (id : ℕ) (f : Forest L G) → AreOwn (ids f) → AreOwn (ids (without id f))
  own_without id f o =
      let r = ids-taken id f o.distinct in
      record {
        distinct = rest-distinct (ids (branch_of id f)) (ids (without id f)) (ids f) r o.distinct;
        positive = rest-all (ids (branch_of id f)) (ids (without id f)) (ids f) r (λ i. 1 ≤ i) o.positive;
      }

  pub taken_apart : (id : ℕ) (f : Forest L G) → AreOwn (ids f) → IsDistinct nat_eq (ids (branch_of id f) ++ ids (without id f))
  taken_apart id f o = parts-distinct (ids (branch_of id f)) (ids (without id f)) (ids f) (ids-taken id f o.distinct) o.distinct

  pub own_branch : (id : ℕ) (f : Forest L G) → AreOwn (ids f) → AreOwn (ids (branch_of id f))
  own_branch id f o = record {
    distinct = distinct-left (ids (branch_of id f)) (ids (without id f)) (taken_apart id f o);
    positive = all-run (ids (branch_of id f)) (ids (without id f)) (ids f) (ids-taken id f o.distinct) (λ i. 1 ≤ i) o.positive;
  }

module _ {N : Type 0} where
  -- no entries
  pub none_siblings : (es : List (NodeEntry N)) → es ≡ [] → AreSiblings 0 es
  none_siblings es e = let P : List (NodeEntry N) → Type 0 = AreSiblings 0 in
      subst P (sym e) (record { flat_is = refl; few = omega arith; low = omega arith })

  pub none_own : (es : List (NodeEntry N)) → es ≡ [] → AreOwn (ids (forest_of es))
  unfolding IsDistinct
  none_own es e =
      let P : List (NodeEntry N) → Type 0 = λ x. AreOwn (ids (forest_of x)) in subst P (sym e) (record { distinct = tt; positive = tt })

  ids-alone : (mark : Bool) (id : ℕ) (node : N) → ids (alone mark id node) ≡ id ∷ []
  ids-alone true id node = refl
  ids-alone false id node = refl

  pub own_alone : (mark : Bool) (id : ℕ) (node : N) (f : Forest N N) → IsNew id f → AreOwn (ids (alone mark id node))
  unfolding IsDistinct
  own_alone mark id node f new =
      let P : List ℕ → Type 0 = AreOwn in
      subst P (sym (ids-alone mark id node)) (record { distinct = (tt, tt); positive = (new.positive, tt) })

  pub alone_apart : (mark : Bool) (id : ℕ) (node : N) (f : Forest N N) → IsNew id f → AreOwn (ids f)
      → IsDistinct nat_eq (ids (alone mark id node) ++ ids f)
  alone_apart mark id node f new o =
      let P : List ℕ → Type 0 = λ xs. IsDistinct nat_eq (xs ++ ids f) in
      subst P (sym (ids-alone mark id node)) (IsDistinct-cons nat_eq id (ids f) (not_there id f new.nowhere) o.distinct)

  -- a branch that is put into a slot
  pub own_in_slot : (stack place : ℕ) (f b : Forest N N) (at level : ℕ) → IsSlot stack place f at level → AreOwn (ids b)
      → AreOwn (ids f) → IsDistinct nat_eq (ids b ++ ids f) → AreOwn (ids (put_into stack place b f))
  own_in_slot stack place f b at level s a o d =
      own_put s.hole b s.under f (put_into stack place b f) s.forest_is (s.put_is b) a o d

  -- a node that is put last
  pub own_last : (path : List ℕ) (f new : Forest N N) (mark : Bool) (id : ℕ) (node : N)
      → put_last path (alone mark id node) f ≡ Some new → IsNew id f → AreOwn (ids f) → AreOwn (ids new)
  own_last path f new mark id node put fresh o = from (hole_last path f) refl where
    b : Forest N N
    b = alone mark id node

    from : (o : Option (Hole N N)) → hole_last path f ≡ o → AreOwn (ids new)
    from None e = let k = sym put ∙ (put_last-hole path b f ∙ ap (option_map (λ h. plug h b)) e) in cc
    from (Some h) e =
        let k : Some (plug h b) ≡ Some new = sym (put_last-hole path b f ∙ ap (option_map (λ h. plug h b)) e) ∙ put in
        let new_is : new ≡ plug h b = cc in
        own_joined (ids b) (ids f) (ids new)
        (run_in_hole h b none new f (ids b) new_is (sym (plug-hole_last path f h e)) (sym (append-nil (ids b))))
        (own_alone mark id node f fresh) o (alone_apart mark id node f fresh o)

  -- another node in the stead of one
  pub own_with_node : (id : ℕ) (w : N) (f : Forest N N) → AreOwn (ids f) → AreOwn (ids (with_node id w f))
  own_with_node id w f o =
      let P : List ℕ → Type 0 = AreOwn in
      subst P (sym (ids-with_group id (λ _. w) (with_leaf id (λ _. w) f) ∙ ids-with_leaf id (λ _. w) f)) o
