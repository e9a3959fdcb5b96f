-- Each group of a document is found by its id, since ids are distinct.
use Rattle.std.proofs.Common.{◌≡◌, ℕ, ◌≤◌, Bool, true, false, cond, nat_eq, List, [], ◌∷◌, ◌++◌, ◌⊎◌, inl, inr, refl}
use Rattle.std.proofs.Common.{sym, ◌∙◌, subst, eq-eqb, arith}
use Rattle.std.specs.Prelude.{Option, Some, IsSome, ◌==◌}
use Rattle.std.specs.List.{AllByRecursion, IsDistinct}
use Rattle.std.proofs.lemmas.Bool.{ne_eqb, eqb-false}
use Rattle.spec_document.specs.Forest.{none, leaf, group, Found, nothing, a_leaf, a_group, or_else, find, ids, children_of}
use Rattle.spec_document.proofs.Distinct.{Member, IsNot, member-left, member-right, nothing_from_ids, distinct-left, distinct-right}
use Rattle.spec_document.specs.Document.{Document, Nodes, Layer, Group}
use Rattle.spec_document.specs.Limits.{IsDocument}
use Rattle.xl_write.specs.Groups.{IsGroupOf, AreGroupsOf}

-- a group with the id stands among the nodes
abbrev HasGroup : ℕ → Nodes → Type 0
HasGroup id none = ⊥
HasGroup id (leaf i l under) = HasGroup id under
HasGroup id (group i g children under) = (i ≡ id) ⊎ (HasGroup id children ⊎ HasGroup id under)

member_of : (id : ℕ) (f : Nodes) → HasGroup id f → Member id (ids f)
member_of id none m = absurd m
member_of id (leaf i l under) m = inr (member_of id under m)
member_of id (group i g children under) (inl e) = inl e
member_of id (group i g children under) (inr (inl m)) = inr (member-left id (ids children) (ids under) (member_of id children m))
member_of id (group i g children under) (inr (inr m)) = inr (member-right id (ids children) (ids under) (member_of id under m))

is_not : (i id : ℕ) (xs : List ℕ) → AllByRecursion (IsNot i) xs → Member id xs → IsNot id i
is_not i id [] h m = absurd m
is_not i id (x ∷ xs) h (inl e) = ne_eqb id i (λ q. eqb-false i x h.0 (sym q ∙ sym e))
is_not i id (x ∷ xs) h (inr m) = is_not i id xs h.1 m

-- a member of the second part is none of the first
apart_before : (id : ℕ) (xs ys : List ℕ) → IsDistinct nat_eq (xs ++ ys) → Member id ys → AllByRecursion (IsNot id) xs
unfolding IsDistinct
apart_before id [] ys d m = tt
apart_before id (x ∷ xs) ys d m = (is_not x id (xs ++ ys) d.0 (member-right id xs ys m), apart_before id xs ys d.1 m)

first_is_group : (a b : Found Layer Group) → IsSome (children_of a) → IsSome (children_of (or_else a b))
first_is_group nothing b h = cc
first_is_group (a_leaf l) b h = cc
first_is_group (a_group g c) b h = h

found : (id : ℕ) (f : Nodes) → IsDistinct nat_eq (ids f) → HasGroup id f → IsSome (children_of (find id f))
unfolding IsDistinct
found id none d m = absurd m
found id (leaf i l under) d m =
    let other : (id == i) ≡ false = is_not i id (ids under) d.0 (member_of id under m) in
    subst (λ b. IsSome (children_of (cond b (a_leaf l) (find id under)))) (sym other) (found id under d.1 m)
found id (group i g children under) d (inl e) =
    let this : (id == i) ≡ true = eq-eqb id i (sym e) in
    subst (λ b. IsSome (children_of (cond b (a_group g children) (or_else (find id children) (find id under))))) (sym this) refl
found id (group i g children under) d (inr (inl m)) =
    let other : (id == i) ≡ false = is_not i id (ids children
    ++ ids under) d.0 (member-left id (ids children) (ids under) (member_of id children m)) in
    subst (λ b. IsSome (children_of (cond b (a_group g children) (or_else (find id children) (find id under))))) (sym other)
    (first_is_group (find id children) (find id under) (found id children (distinct-left (ids children) (ids under) d.1) m))
found id (group i g children under) d (inr (inr m)) =
    let other : (id == i) ≡ false = is_not i id (ids children
    ++ ids under) d.0 (member-right id (ids children) (ids under) (member_of id under m)) in
    let absent : find id children ≡ nothing =
    nothing_from_ids id children (apart_before id (ids children) (ids under) d.1 (member_of id under m)) in
    subst (λ b. IsSome (children_of (cond b (a_group g children) (or_else (find id children) (find id under))))) (sym other)
    (subst (λ found. IsSome (children_of (or_else found (find id under)))) (sym absent)
    (found id under (distinct-right (ids children) (ids under) d.1) m))

some_at : (b : Bool) (f : Nodes) (o : Option Nodes) → IsSome o → IsSome (cond b (Some f) o)
some_at true f o h = refl
some_at false f o h = h

member_has : (P : ℕ → Type 0) (id : ℕ) (xs : List ℕ) → AllByRecursion P xs → Member id xs → P id
member_has P id [] h m = absurd m
member_has P id (x ∷ xs) h (inl e) = subst P e h.0
member_has P id (x ∷ xs) h (inr m) = member_has P id xs h.1 m

all_groups : (d : Document) (ns : Nodes) → ((id : ℕ) → HasGroup id ns → IsGroupOf d id) → AreGroupsOf d ns
all_groups d none each = tt
all_groups d (leaf id l under) each = all_groups d under each
all_groups d (group id g children under) each =
    (each id (inl refl), (all_groups d children (λ i m. each i (inr (inl m))), all_groups d under (λ i m. each i (inr (inr m)))))

pub groups_found : (d : Document) → IsDocument d → AreGroupsOf d d.nodes
groups_found d is = all_groups d d.nodes (λ id m.
    let positive : 1 ≤ id = member_has (λ n. 1 ≤ n) id (ids d.nodes) is.ids.positive (member_of id d.nodes m) in
    record {
      some = λ e. absurd (omega (arith, positive, e));
      stack =
          some_at (id == 0) d.nodes (children_of (find id d.nodes)) (found id d.nodes is.ids.distinct m);
    })
