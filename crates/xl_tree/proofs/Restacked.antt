-- A node that moves from one stack to another.
use Rattle.std.proofs.Common.{◌≡◌, ℕ, ◌+◌, ◌-◌, ◌≤◌, Bool, true, false, cond, eqb, nat_eq, List, [], ◌∷◌, ◌++◌, length}
use Rattle.std.proofs.Common.{map, take, drop, refl, sym, ◌∙◌, subst, ap, arith, length-append}
use Rattle.std.proofs.lemmas.Bool.{eqb-false, ne_eqb}
use Rattle.std.specs.Result.{IsErrAnd}
use Rattle.xl_tree.specs.declared.naming.NodeId.{NodeId}
use Rattle.std.specs.Prelude.{Option, Some, None, Result, Ok, Err, option_map, unwrap_or, ◌||◌}
use Rattle.std.specs.List.{IsDistinct, list_any}
use Rattle.spec_document.specs.Forest.{Forest, leaf, group, size, levels, ids, Found, nothing, a_leaf, a_group, or_else}
use Rattle.spec_document.specs.Forest.{find, ancestors}
use Rattle.spec_document.specs.Changes.{above, without, branch_of}
use Rattle.spec_document.proofs.Holes.{passed_within, size-plug, depth_below_levels}
use Rattle.spec_document.proofs.Distinct.{lone_leaf, lone_group, without-at_leaf, without-at_group, distinct-plug, fewer_under}
use Rattle.spec_document.proofs.Outside.{kind, kind-plug, above_inside}
use Rattle.xl_tree.specs.declared.entries.NodeEntry.{NodeEntry}
use Rattle.xl_tree.specs.declared.refused.TreeRefused.{TreeRefused}
use Rattle.xl_tree.specs.declared.refused.TreeRefused.TheVariants.{Inside}
use Rattle.xl_tree.specs.Flat.{flat, forest_of}
use Rattle.xl_tree.specs.Kept.{AreSiblings}
use Rattle.xl_tree.specs.Moves.{shifted, AreShallow}
use Rattle.xl_tree.specs.Places.{place_of, first_some}
use Rattle.xl_tree.specs.Refusals.{no_node, no_stack, no_group, bad_place, put_refusal, stands_in, inside}
use Rattle.xl_tree.specs.Refusals.{restack_refusal, answer_of}
use Rattle.xl_tree.proofs.Flat.{length-flat, forest_of_is, size-forest_of}
use Rattle.xl_tree.proofs.Placed.{Spot, a_leaf_at, a_group_at, spot}
use Rattle.xl_tree.proofs.Moved.{Taken, parts, size-above}
use Rattle.xl_tree.proofs.Shifted.{shallow-flat}

or_false : (a b : Bool) → (a || b) ≡ false → (a ≡ false) × (b ≡ false)
or_false true b e = cc
or_false false b e = (refl, e)

any_of : (q : List ℕ → Bool) (o : Option (List ℕ)) → q [] ≡ false → unwrap_or (option_map q o) false ≡ q (unwrap_or o [])
any_of q None e = sym e
any_of q (Some xs) e = refl

module _ {L G : Type 0} where
  group_kind : (p : ℕ) (x : Found L G) → no_group p x ≡ None → kind x ≡ 2
  group_kind p nothing e = cc
  group_kind p (a_leaf w) e = cc
  group_kind p (a_group w c) e = refl

  kind_group : (p : ℕ) (x : Found L G) → kind x ≡ 2 → no_group p x ≡ None
  kind_group p nothing e = absurd (eqb-false 0 2 refl e)
  kind_group p (a_leaf w) e = absurd (eqb-false 1 2 refl e)
  kind_group p (a_group w c) e = refl

  stack_kept : (p : ℕ) (f g : Forest L G) (b : Bool) → eqb p 0 ≡ b → kind (find p f) ≡ kind (find p g) → no_stack p f ≡ None
      → no_stack p g ≡ None
  stack_kept p f g true z same there = ap (λ x. cond x None (no_group p (find p g))) z
  stack_kept p f g false z same there =
      let there_f : no_group p (find p f) ≡ None = sym (ap (λ x. cond x None (no_group p (find p f))) z) ∙ there in
      ap (λ x. cond x None (no_group p (find p g))) z ∙ kind_group p (find p g) (sym same ∙ group_kind p (find p f) there_f)

  nothing_or_some : (x : Found L G) → (x ≡ nothing → ⊥) → kind x ≡ 0 → ⊥
  nothing_or_some nothing n e = n refl
  nothing_or_some (a_leaf w) n e = eqb-false 1 0 refl e
  nothing_or_some (a_group w c) n e = eqb-false 2 0 refl e

  kind_here : (p id : ℕ) (w : G) (c u : Forest L G) → eqb p id ≡ false → find p c ≡ nothing
      → kind (find p (group id w c u)) ≡ kind (find p u)
  kind_here p id w c u ne n =
      ap (λ b. kind (cond b (a_group w c) (or_else (find p c) (find p u)))) ne ∙ ap (λ x. kind (or_else x (find p u))) n

  not_found : (p : ℕ) (c : Forest L G) → ((find p c ≡ nothing → ⊥) → ⊥) → find p c ≡ nothing
  not_found p c h = from (find p c) refl where
    from : (x : Found L G) → find p c ≡ x → find p c ≡ nothing
    from nothing e = e
    from (a_leaf w) e = absurd (h (λ n. let k = sym e ∙ n in cc))
    from (a_group w d) e = absurd (h (λ n. let k = sym e ∙ n in cc))

  -- a stack outside a node is there when the node is gone
  pub stack_stays : (p id at : ℕ) (f : Forest L G) → place_of id f ≡ Some at → IsDistinct nat_eq (ids f) → no_stack p f ≡ None
      → stands_in f p id ≡ false → no_stack p (without id f) ≡ None
  stack_stays p id at f at_place distinct there outside = from (spot id at f at_place) where
    apart : (eqb p id ≡ false) × (unwrap_or (option_map (λ above. list_any (λ i. eqb i id) above) (ancestors p f)) false ≡ false)
    apart = or_false (eqb p id) _ outside

    not_above : list_any (λ i. eqb i id) (unwrap_or (ancestors p f) []) ≡ false
    not_above = sym (any_of (list_any (λ i. eqb i id)) (ancestors p f) refl) ∙ apart.1

    P : Forest L G → Type 0
    P x = IsDistinct nat_eq (ids x)

    from : Spot id at f → no_stack p (without id f) ≡ None
    from (a_leaf_at h w u is fresh at_is) =
        let l = lone_leaf id h w u (subst P is distinct) in
        let gone = ap (without id) is ∙ without-at_leaf id h w u fresh l in
        let same : kind (find p (leaf id w u)) ≡ kind (find p u) = ap (λ b. kind (cond b (a_leaf w) (find p u))) apart.0 in
        stack_kept p f (without id f) (eqb p 0) refl
        (ap (λ x. kind (find p x)) is ∙ (kind-plug p h (leaf id w u) u same ∙ ap (λ x. kind (find p x)) (sym gone))) there
    from (a_group_at h w c u is fresh at_is) =
        let d = subst P is distinct in
        let l = lone_group id h w c u d in
        let gone = ap (without id) is ∙ without-at_group id h w c u fresh l in
        let outside_c : find p c ≡ nothing = not_found p c (λ some.
        let wrong : true ≡ false = sym (above_inside p id h w c u d apart.0 some)
        ∙ (ap (λ x. list_any (λ i. eqb i id) (unwrap_or (ancestors p x) [])) (sym is) ∙ not_above) in
        cc) in
        stack_kept p f (without id f) (eqb p 0) refl
        (ap (λ x. kind (find p x)) is ∙ (kind-plug p h (group id w c u) u (kind_here p id w c u apart.0 outside_c)
        ∙ ap (λ x. kind (find p x)) (sym gone))) there

  -- the refusals, as they come
  pub no_node_refuses : (id p place : ℕ) (f : Forest L G) (r : TreeRefused) → no_node id (find id f) ≡ Some r
      → restack_refusal id p place f ≡ Some r
  no_node_refuses id p place f r e =
      ap (λ o. first_some o (first_some (no_stack p f) (first_some (inside id p f) (bad_place p place (without id f))))) e

  pub after_node : (id p place : ℕ) (f : Forest L G) → no_node id (find id f) ≡ None
      → restack_refusal id p place f ≡ first_some (no_stack p f) (first_some (inside id p f) (bad_place p place (without id f)))
  after_node id p place f e =
      ap (λ o. first_some o (first_some (no_stack p f) (first_some (inside id p f) (bad_place p place (without id f))))) e

  pub inside_refuses : (id p place : ℕ) (f : Forest L G) → no_node id (find id f) ≡ None → no_stack p f ≡ None
      → stands_in f p id ≡ true → restack_refusal id p place f ≡ Some (Inside p)
  inside_refuses id p place f e s i =
      after_node id p place f e
      ∙ (ap (λ o. first_some o (first_some (inside id p f) (bad_place p place (without id f)))) s
      ∙ ap (λ b. first_some (cond b (Some (Inside p)) None) (bad_place p place (without id f))) i)

  pub place_is_left : (id p place at : ℕ) (f : Forest L G) → Some at ≡ place_of id f → IsDistinct nat_eq (ids f)
      → no_node id (find id f) ≡ None → no_stack p f ≡ None → stands_in f p id ≡ false
      → restack_refusal id p place f ≡ put_refusal p place (without id f)
  place_is_left id p place at f at_place distinct e s i =
      after_node id p place f e
      ∙ (ap (λ o. first_some o (first_some (inside id p f) (bad_place p place (without id f)))) s
      ∙ (ap (λ b. first_some (cond b (Some (Inside p)) None) (bad_place p place (without id f))) i
      ∙ sym (ap (λ o. first_some o (bad_place p place (without id f))) (stack_stays p id at f (sym at_place) distinct s i))))

-- an answer without a refusal, and one with
pub answer_met : (o : Option TreeRefused) → Ok tt ≡ answer_of o → o ≡ None
answer_met None e = refl
answer_met (Some r) e = cc

pub answer_refused : (o : Option TreeRefused) (r : TreeRefused) → Err r ≡ answer_of o → o ≡ Some r
answer_refused None r e = cc
answer_refused (Some x) r e = cc

module _ {N : Type 0} where
  -- what is known while the branch is parked at the end
  pub record Parked (id at count level n : ℕ) (f : Forest N N) (parked : List (NodeEntry N)) : Type 0 where
    pub within : count ≤ n
    pub at_within : at + count ≤ n
    pub low : level ≤ 8
    pub rest : AreSiblings 0 (take (n - count) parked)
    pub rest_is : forest_of (take (n - count) parked) ≡ without id f
    pub distinct : IsDistinct nat_eq (ids (without id f))
    pub shallow : AreShallow (drop (n - count) parked)
    pub flat_is : parked ≡ flat 0 (without id f) ++ flat 0 (branch_of id f)
    pub count_is : count ≡ size (branch_of id f)
    pub size_is : size (without id f) + size (branch_of id f) ≡ size f
    pub sizes : n ≡ size (without id f) + count

  pub is_parked : (id at count level n : ℕ) (es parked : List (NodeEntry N)) (f : Forest N N) → AreSiblings 0 es → forest_of es ≡ f
      → IsDistinct nat_eq (ids f) → Taken id at count level f es
      → parked ≡ take at es ++ (drop count (drop at es) ++ map (shifted level 0) (take count (drop at es))) → n ≡ length parked
      → Parked id at count level n f parked
  is_parked id at count level n es parked f s view_is distinct t parked_is n_is =
      let r = t.removal_is in
      let few = size-forest_of 0 es s.flat_is in
      let flat_at : parked ≡ flat 0 (without id f) ++ flat 0 (branch_of id f) = parked_is ∙ t.out.parked in
      let p = parts id at count n f parked (omega (arith, s.few, few, ap size view_is))
      (omega (arith, s.low, ap levels view_is)) r t.count_is n_is flat_at in
      let length_is = ap length flat_at ∙ length-append (flat 0 (without id f)) (flat 0 (branch_of id f)) in
      let a = length-flat 0 (without id f) in
      let b = length-flat 0 (branch_of id f) in
      let count_at : count ≡ size (branch_of id f) = t.count_is ∙ ap size (sym r.branch_is) in
      let P : Forest N N → Type 0 = λ x. IsDistinct nat_eq (ids x) in
      let Q : List (NodeEntry N) → Type 0 = AreShallow in
      record {
        within = omega (arith, n_is, length_is, b, count_at);
        at_within = omega (arith, n_is, length_is, a, b, count_at, r.at_is, passed_within r.hole r.under, ap size r.without_is);
        low = omega (
          arith,
          s.low,
          t.level_is,
          depth_below_levels r.hole (above r.branch r.under),
          ap levels r.forest_is,
          ap levels view_is,
        );
        rest = p.rest_siblings;
        rest_is = forest_of_is 0 (take (n - count) parked) (without id f) p.rest_is;
        distinct = subst P (sym r.without_is)
            (distinct-plug (above r.branch r.under) r.under (fewer_under r.branch r.under) r.hole (subst P r.forest_is distinct));
        shallow = subst Q (sym p.branch_is)
            (shallow-flat 0 (branch_of id f)
            (omega (
              arith,
              p.branch_siblings.low,
              ap levels (forest_of_is 0 (drop (n - count) parked) (branch_of id f) p.branch_is),
            )));
        flat_is = flat_at;
        count_is = count_at;
        size_is = omega (
          arith,
          ap size r.without_is,
          ap size r.branch_is,
          ap size r.forest_is,
          size-plug r.hole r.under (above r.branch r.under),
          size-above r.branch r.under,
        );
        sizes = omega (arith, n_is, length_is, a, b, count_at);
      }

-- what a `?` hands on
pub residual_is : (answer : Result (Unit {0}) TreeRefused) (P : TreeRefused → Type 0) (r : TreeRefused) → IsErrAnd answer P
    → ((e : TreeRefused) → P e → e ≡ r) → answer ≡ Err r
residual_is (Ok x) P r h f = absurd h
residual_is (Err e) P r h f = ap (λ x. Err x) (f e h)

-- whether a node is among those above another
any_ids : (xs : List NodeId) (test : NodeId → Bool) (id : ℕ) → ((y : NodeId) → test y ≡ eqb y.0 id)
    → list_any test xs ≡ list_any (λ i. eqb i id) (map (λ (i : NodeId). i.0) xs)
any_ids [] test id e = refl
any_ids (x ∷ xs) test id e = λ j. e x j || any_ids xs test id e j

pub stands_above : {N : Type 0} (f : Forest N N) (node other : ℕ) (xs : List NodeId) (test : NodeId → Bool) → (node ≡ other → ⊥)
    → map (λ (i : NodeId). i.0) xs ≡ unwrap_or (ancestors node f) [] → ((y : NodeId) → test y ≡ eqb y.0 other)
    → list_any test xs ≡ stands_in f node other
stands_above f node other xs test ne above_is same =
    any_ids xs test other same
    ∙ (ap (list_any (λ i. eqb i other)) above_is
    ∙ (sym (any_of (list_any (λ i. eqb i other)) (ancestors node f) refl)
    ∙ ap (λ b. b || unwrap_or (option_map (λ above. list_any (λ i. eqb i other) above) (ancestors node f)) false)
    (sym (ne_eqb node other ne))))

pub stack_refuses : (o rest : Option TreeRefused) (r : TreeRefused) → o ≡ Some r → first_some o rest ≡ Some r
stack_refuses o rest r e = ap (λ x. first_some x rest) e

module _ {N : Type 0} where
  -- the same front of the same entries
  pub rest_same : (count : ℕ) {m n : ℕ} {xs ys : List (NodeEntry N)} → m ≡ n → xs ≡ ys → take (m - count) xs ≡ take (n - count) ys
  rest_same count e f = λ j. take (e j - count) (f j)

  pub distinct_same : (x y : Forest N N) → x ≡ y → IsDistinct nat_eq (ids y) → IsDistinct nat_eq (ids x)
  distinct_same x y e d = let P : Forest N N → Type 0 = λ z. IsDistinct nat_eq (ids z) in subst P (sym e) d
