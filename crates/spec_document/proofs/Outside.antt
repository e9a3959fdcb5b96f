-- A node that stands outside a branch is still there when the branch is gone.
use Rattle.std.proofs.Common.{◌≡◌, ℕ, Bool, true, false, cond, eqb, nat_eq, List, [], ◌∷◌, ◌++◌, inl, inr, refl, sym}
use Rattle.std.proofs.Common.{◌∙◌, subst, ap, eq-eqb}
use Rattle.std.proofs.lemmas.Bool.{eqb-false, ne_eqb}
use Rattle.std.proofs.lemmas.List.{append_assoc, append-nil}
use Rattle.std.proofs.lemmas.Map.Keys.{IsDistinct-head, IsDistinct-tail}
use Rattle.std.specs.Prelude.{Some, unwrap_or, ◌||◌}
use Rattle.std.specs.List.{AllByRecursion, IsDistinct, list_any}
use Rattle.spec_document.specs.Forest.{Forest, leaf, group, ids, Found, nothing, a_leaf, a_group, or_else, find, ancestors}
use Rattle.spec_document.specs.Holes.{Hole, here, under_leaf, under_group, in_group, plug}
use Rattle.spec_document.proofs.Holes.{into, plug-into}
use Rattle.spec_document.proofs.Standing.{Fresh, Standing, nowhere, at_leaf, at_group, standing, groups, ancestors-plug}
use Rattle.spec_document.proofs.Standing.{ancestors-of_leaf, ancestors-of_group}
use Rattle.spec_document.proofs.Distinct.{IsNot, Member, member-left, member-right, member-plug, distinct-left}
use Rattle.spec_document.proofs.Distinct.{distinct-right, nothing_from_ids}

-- nothing, a leaf or a group
abbrev pub kind : {L G : Type 0} → Found L G → ℕ
kind nothing = 0
kind (a_leaf w) = 1
kind (a_group w c) = 2

not_same : (a b : ℕ) → nat_eq a b ≡ false → nat_eq b a ≡ false
not_same a b e = ne_eqb b a (λ same. eqb-false a b e (sym same))

all_member : (P : ℕ → Type 0) (id : ℕ) (xs : List ℕ) → AllByRecursion P xs → Member id xs → P id
all_member P id [] h m = absurd m
all_member P id (x ∷ xs) h (inl e) = subst P e h.0
all_member P id (x ∷ xs) h (inr m) = all_member P id xs h.1 m

-- a member of the later part is none of the earlier
apart_before : (id : ℕ) (xs ys : List ℕ) → IsDistinct nat_eq (xs ++ ys) → Member id ys → AllByRecursion (IsNot id) xs
apart_before id [] ys d m = tt
apart_before id (x ∷ xs) ys d m = (
  not_same x id (all_member (IsNot x) id (xs ++ ys) (IsDistinct-head nat_eq x (xs ++ ys) d) (member-right id xs ys m)),
  apart_before id xs ys (IsDistinct-tail nat_eq x (xs ++ ys) d) m,
)

any_there : (id : ℕ) (xs ys : List ℕ) → list_any (λ i. eqb i id) (xs ++ id ∷ ys) ≡ true
any_there id [] ys = ap (λ b. b || list_any (λ i. eqb i id) ys) (eq-eqb id id refl)
any_there id (x ∷ xs) ys = any_step (eqb x id) (list_any (λ i. eqb i id) (xs ++ id ∷ ys)) (any_there id xs ys) where
  any_step : (a b : Bool) → b ≡ true → (a || b) ≡ true
  any_step true b e = refl
  any_step false b e = e

module _ {L G : Type 0} where
  kind-cond : (b : Bool) (x x' y y' : Found L G) → kind x ≡ kind x' → kind y ≡ kind y' → kind (cond b x y) ≡ kind (cond b x' y')
  kind-cond true x x' y y' e f = e
  kind-cond false x x' y y' e f = f

  kind-or_else : (x x' y y' : Found L G) → kind x ≡ kind x' → kind y ≡ kind y' → kind (or_else x y) ≡ kind (or_else x' y')
  kind-or_else nothing nothing y y' e f = f
  kind-or_else nothing (a_leaf w) y y' e f = absurd (eqb-false 0 1 refl e)
  kind-or_else nothing (a_group w c) y y' e f = absurd (eqb-false 0 2 refl e)
  kind-or_else (a_leaf w) nothing y y' e f = absurd (eqb-false 1 0 refl e)
  kind-or_else (a_leaf w) (a_leaf v) y y' e f = refl
  kind-or_else (a_leaf w) (a_group v c) y y' e f = absurd (eqb-false 1 2 refl e)
  kind-or_else (a_group w c) nothing y y' e f = absurd (eqb-false 2 0 refl e)
  kind-or_else (a_group w c) (a_leaf v) y y' e f = absurd (eqb-false 2 1 refl e)
  kind-or_else (a_group w c) (a_group v d) y y' e f = refl

  -- what is found outside a hole is of the same kind, whatever is in the hole
  pub kind-plug : (p : ℕ) (h : Hole L G) (old new : Forest L G) → kind (find p old) ≡ kind (find p new)
      → kind (find p (plug h old)) ≡ kind (find p (plug h new))
  kind-plug p here old new e = e
  kind-plug p (under_leaf i w h) old new e =
      kind-cond (eqb p i) (a_leaf w) (a_leaf w) (find p (plug h old)) (find p (plug h new)) refl (kind-plug p h old new e)
  kind-plug p (under_group i w c h) old new e =
      kind-cond (eqb p i) (a_group w c) (a_group w c) (or_else (find p c) (find p (plug h old)))
      (or_else (find p c) (find p (plug h new))) refl
      (kind-or_else (find p c) (find p c) (find p (plug h old)) (find p (plug h new)) refl (kind-plug p h old new e))
  kind-plug p (in_group i w h u) old new e =
      kind-cond (eqb p i) (a_group w (plug h old)) (a_group w (plug h new)) (or_else (find p (plug h old)) (find p u))
      (or_else (find p (plug h new)) (find p u)) refl
      (kind-or_else (find p (plug h old)) (find p (plug h new)) (find p u) (find p u) (kind-plug p h old new e) refl)

  -- where ids are distinct, no node before the hole has an id of what is in it
  pub fresh_from : (p : ℕ) (h : Hole L G) (f : Forest L G) → IsDistinct nat_eq (ids (plug h f)) → Member p (ids f) → Fresh p h
  fresh_from p here f d m = tt
  fresh_from p (under_leaf i w h) f d m = (
    not_same i p (all_member (IsNot i) p (ids (plug h f)) (IsDistinct-head nat_eq i (ids (plug h f)) d) (member-plug p h f m)),
    fresh_from p h f (IsDistinct-tail nat_eq i (ids (plug h f)) d) m,
  )
  fresh_from p (under_group i w c h) f d m =
      let t = IsDistinct-tail nat_eq i (ids c ++ ids (plug h f)) d in
      let inside = member-plug p h f m in (
        not_same i p (all_member (IsNot i) p (ids c
            ++ ids (plug h f)) (IsDistinct-head nat_eq i (ids c ++ ids (plug h f)) d)
            (member-right p (ids c) (ids (plug h f)) inside)),
        nothing_from_ids p c (apart_before p (ids c) (ids (plug h f)) t inside),
        fresh_from p h f (distinct-right (ids c) (ids (plug h f)) t) m,
      )
  fresh_from p (in_group i w h u) f d m =
      let t = IsDistinct-tail nat_eq i (ids (plug h f) ++ ids u) d in
      let inside = member-plug p h f m in (
        not_same i p (all_member (IsNot i) p (ids (plug h f)
            ++ ids u) (IsDistinct-head nat_eq i (ids (plug h f) ++ ids u) d) (member-left p (ids (plug h f)) (ids u) inside)),
        fresh_from p h f (distinct-left (ids (plug h f)) (ids u) t) m,
      )

  fresh-into : (p : ℕ) (h inner : Hole L G) → Fresh p h → Fresh p inner → Fresh p (into h inner)
  fresh-into p here inner a b = b
  fresh-into p (under_leaf i w h) inner a b = (a.0, fresh-into p h inner a.1 b)
  fresh-into p (under_group i w c h) inner a b = (a.0, a.1, fresh-into p h inner a.2 b)
  fresh-into p (in_group i w h u) inner a b = (a.0, fresh-into p h inner a.1 b)

  groups-into : (h inner : Hole L G) → groups (into h inner) ≡ groups inner ++ groups h
  groups-into here inner = sym (append-nil (groups inner))
  groups-into (under_leaf i w h) inner = groups-into h inner
  groups-into (under_group i w c h) inner = groups-into h inner
  groups-into (in_group i w h u) inner =
      ap (λ x. x ++ i ∷ []) (groups-into h inner) ∙ append_assoc (groups inner) (groups h) (i ∷ [])

  -- a node in a group has the group among those above it
  pub above_inside : (p id : ℕ) (h : Hole L G) (w : G) (c u : Forest L G) → IsDistinct nat_eq (ids (plug h (group id w c u)))
      → eqb p id ≡ false → (find p c ≡ nothing → ⊥)
      → list_any (λ i. eqb i id) (unwrap_or (ancestors p (plug h (group id w c u))) []) ≡ true
  above_inside p id h w c u d ne some = from (standing p c) where
    made : (h2 : Hole L G) (x : Forest L G) → c ≡ plug h2 x → Fresh p h2 → Member p (ids x) → ancestors p x ≡ Some []
        → list_any (λ i. eqb i id) (unwrap_or (ancestors p (plug h (group id w c u))) []) ≡ true
    made h2 x is fresh m top =
        let all : Hole L G = into h (in_group id w h2 u) in
        let whole : plug h (group id w c u) ≡ plug all x = ap (λ y. plug h (group id w y u)) is
        ∙ sym (plug-into h (in_group id w h2 u) x) in
        let inside : Member p (ids c) = let P : Forest L G → Type 0 = λ y. Member p (ids y) in
        subst P (sym is) (member-plug p h2 x m) in
        let before : Fresh p h = fresh_from p h (group id w c u) d (inr (member-left p (ids c) (ids u) inside)) in
        let above_it : ancestors p (plug h (group id w c u)) ≡ Some (groups all) =
        ap (ancestors p) whole ∙ ancestors-plug p all x (fresh-into p h (in_group id w h2 u) before (ne, fresh)) top in
        let shape : groups all ≡ groups h2 ++ id ∷ groups h =
        groups-into h (in_group id w h2 u) ∙ append_assoc (groups h2) (id ∷ []) (groups h) in
        ap (λ o. list_any (λ i. eqb i id) (unwrap_or o [])) above_it
        ∙ (ap (list_any (λ i. eqb i id)) shape ∙ any_there id (groups h2) (groups h))

    from : Standing p c → list_any (λ i. eqb i id) (unwrap_or (ancestors p (plug h (group id w c u))) []) ≡ true
    from (nowhere n) = absurd (some n)
    from (at_leaf h2 v x is fresh) = made h2 (leaf p v x) is fresh (inl refl) (ancestors-of_leaf p v x)
    from (at_group h2 v d2 x is fresh) = made h2 (group p v d2 x) is fresh (inl refl) (ancestors-of_group p v d2 x)
