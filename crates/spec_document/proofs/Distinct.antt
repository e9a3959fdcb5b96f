-- Where ids are distinct, a node with an id stands in one place, and changes by id change nothing else.
use Rattle.std.proofs.Common.{◌≡◌, ℕ, false, cond, eqb, nat_eq, List, [], ◌∷◌, ◌++◌, ◌⊎◌, inl, inr, refl, sym, ◌∙◌}
use Rattle.std.proofs.Common.{subst, ap, eq-eqb, arith}
use Rattle.std.specs.List.{AllByRecursion, IsDistinct}
use Rattle.std.proofs.lemmas.Map.Keys.{IsDistinct-head, IsDistinct-tail, IsDistinct-cons}
use Rattle.std.proofs.lemmas.List.{append_assoc}
use Rattle.spec_document.specs.Forest.{Forest, none, leaf, group, ids, nothing, a_leaf, a_group, or_else, find}
use Rattle.spec_document.specs.Changes.{above, with_leaf, with_group, with_children, without, branch_of}
use Rattle.spec_document.specs.Holes.{Hole, here, under_leaf, under_group, in_group, plug}
use Rattle.spec_document.proofs.Holes.{above-none}
use Rattle.spec_document.proofs.Standing.{Fresh, lacks_leaf, lacks_group}

-- no node behind the hole has the id
abbrev pub Lone : {L G : Type 0} → ℕ → Hole L G → Type 0
Lone id here = Unit {0}
Lone id (under_leaf i w h) = Lone id h
Lone id (under_group i w c h) = Lone id h
Lone id (in_group i w h u) = (find id u ≡ nothing) × Lone id h

abbrev pub IsNot : ℕ → ℕ → Type 0
IsNot id i = nat_eq id i ≡ false

abbrev pub Member : ℕ → List ℕ → Type 0
Member id [] = ⊥
Member id (x ∷ xs) = (x ≡ id) ⊎ Member id xs

pub all-left : (P : ℕ → Type 0) (xs ys : List ℕ) → AllByRecursion P (xs ++ ys) → AllByRecursion P xs
all-left P [] ys h = tt
all-left P (x ∷ xs) ys h = (h.0, all-left P xs ys h.1)

pub all-right : (P : ℕ → Type 0) (xs ys : List ℕ) → AllByRecursion P (xs ++ ys) → AllByRecursion P ys
all-right P [] ys h = h
all-right P (x ∷ xs) ys h = all-right P xs ys h.1

pub distinct-left : (xs ys : List ℕ) → IsDistinct nat_eq (xs ++ ys) → IsDistinct nat_eq xs
unfolding IsDistinct
distinct-left [] ys d = tt
distinct-left (x ∷ xs) ys d = (all-left (IsNot x) xs ys d.0, distinct-left xs ys d.1)

pub distinct-right : (xs ys : List ℕ) → IsDistinct nat_eq (xs ++ ys) → IsDistinct nat_eq ys
unfolding IsDistinct
distinct-right [] ys d = d
distinct-right (x ∷ xs) ys d = distinct-right xs ys d.1

-- a member of one part is none of the other
pub apart : (id : ℕ) (xs ys : List ℕ) → IsDistinct nat_eq (xs ++ ys) → Member id xs → AllByRecursion (IsNot id) ys
unfolding IsDistinct
apart id [] ys d m = absurd m
apart id (x ∷ xs) ys d (inl e) = let P : ℕ → Type 0 = λ i. AllByRecursion (IsNot i) ys in subst P e (all-right (IsNot x) xs ys d.0)
apart id (x ∷ xs) ys d (inr m) = apart id xs ys d.1 m

pub member-left : (id : ℕ) (xs ys : List ℕ) → Member id xs → Member id (xs ++ ys)
member-left id [] ys m = absurd m
member-left id (x ∷ xs) ys (inl e) = inl e
member-left id (x ∷ xs) ys (inr m) = inr (member-left id xs ys m)

pub member-right : (id : ℕ) (xs ys : List ℕ) → Member id ys → Member id (xs ++ ys)
member-right id [] ys m = m
member-right id (x ∷ xs) ys m = inr (member-right id xs ys m)

module _ {L G : Type 0} where
  -- an id that no node has is not found
  pub nothing_from_ids : (id : ℕ) (f : Forest L G) → AllByRecursion (IsNot id) (ids f) → find id f ≡ nothing
  nothing_from_ids id none h = refl
  nothing_from_ids id (leaf i w u) h = ap (λ b. cond b (a_leaf w) (find id u)) h.0 ∙ nothing_from_ids id u h.1
  nothing_from_ids id (group i w c u) h =
      ap (λ b. cond b (a_group w c) (or_else (find id c) (find id u))) h.0
      ∙ (ap (λ x. or_else x (find id u)) (nothing_from_ids id c (all-left (IsNot id) (ids c) (ids u) h.1))
      ∙ nothing_from_ids id u (all-right (IsNot id) (ids c) (ids u) h.1))

  pub member-plug : (id : ℕ) (h : Hole L G) (f : Forest L G) → Member id (ids f) → Member id (ids (plug h f))
  member-plug id here f m = m
  member-plug id (under_leaf i w h) f m = inr (member-plug id h f m)
  member-plug id (under_group i w c h) f m = inr (member-right id (ids c) (ids (plug h f)) (member-plug id h f m))
  member-plug id (in_group i w h u) f m = inr (member-left id (ids (plug h f)) (ids u) (member-plug id h f m))

  -- what stands in the hole has distinct ids, and shares none with what is behind
  pub distinct-in_hole : (h : Hole L G) (f : Forest L G) → IsDistinct nat_eq (ids (plug h f)) → IsDistinct nat_eq (ids f)
  distinct-in_hole here f d = d
  distinct-in_hole (under_leaf i w h) f d = distinct-in_hole h f (IsDistinct-tail nat_eq i (ids (plug h f)) d)
  distinct-in_hole (under_group i w c h) f d =
      distinct-in_hole h f (distinct-right (ids c) (ids (plug h f)) (IsDistinct-tail nat_eq i (ids c ++ ids (plug h f)) d))
  distinct-in_hole (in_group i w h u) f d =
      distinct-in_hole h f (distinct-left (ids (plug h f)) (ids u) (IsDistinct-tail nat_eq i (ids (plug h f) ++ ids u) d))

  pub lone_from : (id : ℕ) (h : Hole L G) (f : Forest L G) → IsDistinct nat_eq (ids (plug h f)) → Member id (ids f) → Lone id h
  lone_from id here f d m = tt
  lone_from id (under_leaf i w h) f d m = lone_from id h f (IsDistinct-tail nat_eq i (ids (plug h f)) d) m
  lone_from id (under_group i w c h) f d m =
      lone_from id h f (distinct-right (ids c) (ids (plug h f)) (IsDistinct-tail nat_eq i (ids c ++ ids (plug h f)) d)) m
  lone_from id (in_group i w h u) f d m =
      let t = IsDistinct-tail nat_eq i (ids (plug h f) ++ ids u) d in (
        nothing_from_ids id u (apart id (ids (plug h f)) (ids u) t (member-plug id h f m)),
        lone_from id h f (distinct-left (ids (plug h f)) (ids u) t) m,
      )

  -- a change by id that passes other nodes by
  pub record Walks (id : ℕ) (change : Forest L G → Forest L G) : Type 0 where
    pub at_none : change none ≡ none
    pub by_leaf : (i : ℕ) (w : L) (u : Forest L G) → eqb id i ≡ false → change (leaf i w u) ≡ leaf i w (change u)
    pub by_group : (i : ℕ) (w : G) (c u : Forest L G) → eqb id i ≡ false → change (group i w c u) ≡ group i w (change c) (change u)

  pub untouched : (id : ℕ) (change : Forest L G → Forest L G) → Walks id change → (f : Forest L G) → find id f ≡ nothing
      → change f ≡ f
  untouched id change k none n = k.at_none
  untouched id change k (leaf i w u) n =
      let l = lacks_leaf w (find id u) (eqb id i) n in
      k.by_leaf i w u l.0 ∙ ap (leaf i w) (untouched id change k u l.1)
  untouched id change k (group i w c u) n =
      let l = lacks_group w c (find id c) (find id u) (eqb id i) n in
      k.by_group i w c u l.0 ∙ (λ j. group i w (untouched id change k c l.1 j) (untouched id change k u l.2 j))

  pub walks-plug : (id : ℕ) (change : Forest L G → Forest L G) → Walks id change → (h : Hole L G) (f : Forest L G) → Fresh id h
      → Lone id h → change (plug h f) ≡ plug h (change f)
  walks-plug id change k here f fresh lone = refl
  walks-plug id change k (under_leaf i w h) f fresh lone =
      k.by_leaf i w (plug h f) fresh.0 ∙ ap (leaf i w) (walks-plug id change k h f fresh.1 lone)
  walks-plug id change k (under_group i w c h) f fresh lone =
      k.by_group i w c (plug h f) fresh.0
      ∙ (λ j. group i w (untouched id change k c fresh.1 j) (walks-plug id change k h f fresh.2 lone j))
  walks-plug id change k (in_group i w h u) f fresh lone =
      k.by_group i w (plug h f) u fresh.0
      ∙ (λ j. group i w (walks-plug id change k h f fresh.1 lone.1 j) (untouched id change k u lone.0 j))

  pub walks-with_leaf : (id : ℕ) (change : L → L) → Walks id (with_leaf id change)
  walks-with_leaf id change = record {
    at_none = refl;
    by_leaf = λ i w u e. ap (λ b. leaf i (cond b (change w) w) (with_leaf id change u)) e;
    by_group = λ i w c u e. refl;
  }

  pub walks-with_group : (id : ℕ) (change : G → G) → Walks id (with_group id change)
  walks-with_group id change = record {
    at_none = refl;
    by_leaf = λ i w u e. refl;
    by_group = λ i w c u e. ap (λ b. group i (cond b (change w) w) (with_group id change c) (with_group id change u)) e;
  }

  pub walks-with_children : (id : ℕ) (change : Forest L G → Forest L G) → Walks id (with_children id change)
  walks-with_children id change = record {
    at_none = refl;
    by_leaf = λ i w u e. refl;
    by_group = λ i w c u e. ap (λ b. group i w (cond b (change c) (with_children id change c)) (with_children id change u)) e;
  }

  pub walks-without : (id : ℕ) → Walks id (without {L = L} {G = G} id)
  walks-without id = record {
    at_none = refl;
    by_leaf = λ i w u e. ap (λ b. cond b u (leaf i w (without id u))) e;
    by_group = λ i w c u e. ap (λ b. cond b u (group i w (without id c) (without id u))) e;
  }

  -- no branch of an absent node
  pub branch_of-nowhere : (id : ℕ) (f : Forest L G) → find id f ≡ nothing → branch_of id f ≡ none
  branch_of-nowhere id none n = refl
  branch_of-nowhere id (leaf i w u) n =
      let l = lacks_leaf w (find id u) (eqb id i) n in
      ap (λ b. cond b (leaf i w none) (branch_of id u)) l.0 ∙ branch_of-nowhere id u l.1
  branch_of-nowhere id (group i w c u) n =
      let l = lacks_group w c (find id c) (find id u) (eqb id i) n in
      ap (λ b. cond b (group i w c none) (above (branch_of id c) (branch_of id u))) l.0
      ∙ (ap (λ x. above x (branch_of id u)) (branch_of-nowhere id c l.1) ∙ branch_of-nowhere id u l.2)

  pub branch_of-plug : (id : ℕ) (h : Hole L G) (f : Forest L G) → Fresh id h → Lone id h → branch_of id (plug h f) ≡ branch_of id f
  branch_of-plug id here f fresh lone = refl
  branch_of-plug id (under_leaf i w h) f fresh lone =
      ap (λ b. cond b (leaf i w none) (branch_of id (plug h f))) fresh.0 ∙ branch_of-plug id h f fresh.1 lone
  branch_of-plug id (under_group i w c h) f fresh lone =
      ap (λ b. cond b (group i w c none) (above (branch_of id c) (branch_of id (plug h f)))) fresh.0
      ∙ (ap (λ x. above x (branch_of id (plug h f))) (branch_of-nowhere id c fresh.1) ∙ branch_of-plug id h f fresh.2 lone)
  branch_of-plug id (in_group i w h u) f fresh lone =
      ap (λ b. cond b (group i w (plug h f) none) (above (branch_of id (plug h f)) (branch_of id u))) fresh.0
      ∙ (ap (λ x. above (branch_of id (plug h f)) x) (branch_of-nowhere id u lone.0)
      ∙ (above-none (branch_of id (plug h f)) ∙ branch_of-plug id h f fresh.1 lone.1))

  -- what is known of a leaf in its hole, where ids are distinct
  pub record LoneLeaf (id : ℕ) (h : Hole L G) (u : Forest L G) : Type 0 where
    pub lone : Lone id h
    pub under : find id u ≡ nothing

  pub lone_leaf : (id : ℕ) (h : Hole L G) (w : L) (u : Forest L G) → IsDistinct nat_eq (ids (plug h (leaf id w u)))
      → LoneLeaf id h u
  lone_leaf id h w u d = record {
    lone = lone_from id h (leaf id w u) d (inl refl);
    under = nothing_from_ids id u (IsDistinct-head nat_eq id (ids u) (distinct-in_hole h (leaf id w u) d));
  }

  pub record LoneGroup (id : ℕ) (h : Hole L G) (c u : Forest L G) : Type 0 where
    pub lone : Lone id h
    pub children : find id c ≡ nothing
    pub under : find id u ≡ nothing

  pub lone_group : (id : ℕ) (h : Hole L G) (w : G) (c u : Forest L G) → IsDistinct nat_eq (ids (plug h (group id w c u)))
      → LoneGroup id h c u
  lone_group id h w c u d =
      let others = IsDistinct-head nat_eq id (ids c ++ ids u) (distinct-in_hole h (group id w c u) d) in
      record {
        lone = lone_from id h (group id w c u) d (inl refl);
        children = nothing_from_ids id c (all-left (IsNot id) (ids c) (ids u) others);
        under = nothing_from_ids id u (all-right (IsNot id) (ids c) (ids u) others);
      }

  -- the changes, at a node in its hole
  pub with_leaf-at_leaf : (id : ℕ) (change : L → L) (h : Hole L G) (w : L) (u : Forest L G) → Fresh id h → LoneLeaf id h u
      → with_leaf id change (plug h (leaf id w u)) ≡ plug h (leaf id (change w) u)
  with_leaf-at_leaf id change h w u fresh l =
      walks-plug id (with_leaf id change) (walks-with_leaf id change) h (leaf id w u) fresh l.lone
      ∙ (λ j. plug h (leaf id (cond (eq-eqb id id refl j) (change w) w)
      (untouched id (with_leaf id change) (walks-with_leaf id change) u l.under j)))

  pub with_leaf-at_group : (id : ℕ) (change : L → L) (h : Hole L G) (w : G) (c u : Forest L G) → Fresh id h → LoneGroup id h c u
      → with_leaf id change (plug h (group id w c u)) ≡ plug h (group id w c u)
  with_leaf-at_group id change h w c u fresh l =
      let k = walks-with_leaf id change in
      walks-plug id (with_leaf id change) k h (group id w c u) fresh l.lone
      ∙ (λ j. plug h (group id w (untouched id (with_leaf id change) k c l.children j)
      (untouched id (with_leaf id change) k u l.under j)))

  pub with_group-at_leaf : (id : ℕ) (change : G → G) (h : Hole L G) (w : L) (u : Forest L G) → Fresh id h → LoneLeaf id h u
      → with_group id change (plug h (leaf id w u)) ≡ plug h (leaf id w u)
  with_group-at_leaf id change h w u fresh l =
      let k = walks-with_group id change in
      walks-plug id (with_group id change) k h (leaf id w u) fresh l.lone
      ∙ (λ j. plug h (leaf id w (untouched id (with_group id change) k u l.under j)))

  pub with_group-at_group : (id : ℕ) (change : G → G) (h : Hole L G) (w : G) (c u : Forest L G) → Fresh id h → LoneGroup id h c u
      → with_group id change (plug h (group id w c u)) ≡ plug h (group id (change w) c u)
  with_group-at_group id change h w c u fresh l =
      let k = walks-with_group id change in
      walks-plug id (with_group id change) k h (group id w c u) fresh l.lone
      ∙ (λ j. plug h (group id (cond (eq-eqb id id refl j) (change w) w) (untouched id (with_group id change) k c l.children j)
      (untouched id (with_group id change) k u l.under j)))

  pub with_children-at_group : (id : ℕ) (change : Forest L G → Forest L G) (h : Hole L G) (w : G) (c u : Forest L G) → Fresh id h
      → LoneGroup id h c u → with_children id change (plug h (group id w c u)) ≡ plug h (group id w (change c) u)
  with_children-at_group id change h w c u fresh l =
      let k = walks-with_children id change in
      walks-plug id (with_children id change) k h (group id w c u) fresh l.lone
      ∙ (λ j. plug h (group id w (cond (eq-eqb id id refl j) (change c) (with_children id change c))
      (untouched id (with_children id change) k u l.under j)))

  pub without-at_leaf : (id : ℕ) (h : Hole L G) (w : L) (u : Forest L G) → Fresh id h → LoneLeaf id h u
      → without id (plug h (leaf id w u)) ≡ plug h u
  without-at_leaf id h w u fresh l =
      walks-plug id (without id) (walks-without id) h (leaf id w u) fresh l.lone
      ∙ (λ j. plug h (cond (eq-eqb id id refl j) u (leaf id w (without id u))))

  pub without-at_group : (id : ℕ) (h : Hole L G) (w : G) (c u : Forest L G) → Fresh id h → LoneGroup id h c u
      → without id (plug h (group id w c u)) ≡ plug h u
  without-at_group id h w c u fresh l =
      walks-plug id (without id) (walks-without id) h (group id w c u) fresh l.lone
      ∙ (λ j. plug h (cond (eq-eqb id id refl j) u (group id w (without id c) (without id u))))

  pub branch_of-at_leaf : (id : ℕ) (h : Hole L G) (w : L) (u : Forest L G) → Fresh id h → LoneLeaf id h u
      → branch_of id (plug h (leaf id w u)) ≡ leaf id w none
  branch_of-at_leaf id h w u fresh l =
      branch_of-plug id h (leaf id w u) fresh l.lone ∙ ap (λ b. cond b (leaf id w none) (branch_of id u)) (eq-eqb id id refl)

  pub branch_of-at_group : (id : ℕ) (h : Hole L G) (w : G) (c u : Forest L G) → Fresh id h → LoneGroup id h c u
      → branch_of id (plug h (group id w c u)) ≡ group id w c none
  branch_of-at_group id h w c u fresh l =
      branch_of-plug id h (group id w c u) fresh l.lone
      ∙ ap (λ b. cond b (group id w c none) (above (branch_of id c) (branch_of id u))) (eq-eqb id id refl)

all-join : (P : ℕ → Type 0) (xs ys : List ℕ) → AllByRecursion P xs → AllByRecursion P ys → AllByRecursion P (xs ++ ys)
all-join P [] ys h k = k
all-join P (x ∷ xs) ys h k = (h.0, all-join P xs ys h.1 k)

-- distinct in both parts, and none of the one in the other
record ApartParts (xs ys : List ℕ) : Type 0 where
  pub left : IsDistinct nat_eq xs
  pub right : IsDistinct nat_eq ys
  pub between : AllByRecursion (λ x. AllByRecursion (IsNot x) ys) xs

between-from : (xs ys : List ℕ) → IsDistinct nat_eq (xs ++ ys) → AllByRecursion (λ x. AllByRecursion (IsNot x) ys) xs
unfolding IsDistinct
between-from [] ys d = tt
between-from (x ∷ xs) ys d = (all-right (IsNot x) xs ys d.0, between-from xs ys d.1)

apart_parts : (xs ys : List ℕ) → IsDistinct nat_eq (xs ++ ys) → ApartParts xs ys
apart_parts xs ys d = record { left = distinct-left xs ys d; right = distinct-right xs ys d; between = between-from xs ys d }

distinct-join : (xs ys : List ℕ) → IsDistinct nat_eq xs → IsDistinct nat_eq ys
    → AllByRecursion (λ x. AllByRecursion (IsNot x) ys) xs → IsDistinct nat_eq (xs ++ ys)
unfolding IsDistinct
distinct-join [] ys d e b = e
distinct-join (x ∷ xs) ys d e b = (all-join (IsNot x) xs ys d.0 b.0, distinct-join xs ys d.1 e b.1)

each : (P Q : ℕ → Type 0) (xs : List ℕ) → ((x : ℕ) → P x → Q x) → AllByRecursion P xs → AllByRecursion Q xs
each P Q [] f h = tt
each P Q (x ∷ xs) f h = (f x h.0, each P Q xs f h.1)

module _ {L G : Type 0} where
  -- the new forest has no other ids than the old one
  pub record FewerIds (old new : Forest L G) : Type 1 where
    pub all : (P : ℕ → Type 0) → AllByRecursion P (ids old) → AllByRecursion P (ids new)
    pub distinct : IsDistinct nat_eq (ids old) → IsDistinct nat_eq (ids new)

  all-plug : (old new : Forest L G) → FewerIds old new → (P : ℕ → Type 0) (h : Hole L G) → AllByRecursion P (ids (plug h old))
      → AllByRecursion P (ids (plug h new))
  all-plug old new k P here a = k.all P a
  all-plug old new k P (under_leaf i w h) a = (a.0, all-plug old new k P h a.1)
  all-plug old new k P (under_group i w c h) a = (
    a.0,
    all-join P (ids c) (ids (plug h new)) (all-left P (ids c) (ids (plug h old)) a.1)
        (all-plug old new k P h (all-right P (ids c) (ids (plug h old)) a.1)),
  )
  all-plug old new k P (in_group i w h u) a = (
    a.0,
    all-join P (ids (plug h new)) (ids u) (all-plug old new k P h (all-left P (ids (plug h old)) (ids u) a.1))
        (all-right P (ids (plug h old)) (ids u) a.1),
  )

  pub distinct-plug : (old new : Forest L G) → FewerIds old new → (h : Hole L G) → IsDistinct nat_eq (ids (plug h old))
      → IsDistinct nat_eq (ids (plug h new))
  distinct-plug old new k here d = k.distinct d
  distinct-plug old new k (under_leaf i w h) d =
      IsDistinct-cons nat_eq i (ids (plug h new)) (all-plug old new k (IsNot i) h (IsDistinct-head nat_eq i (ids (plug h old)) d))
      (distinct-plug old new k h (IsDistinct-tail nat_eq i (ids (plug h old)) d))
  distinct-plug old new k (under_group i w c h) d =
      let p = apart_parts (ids c) (ids (plug h old)) (IsDistinct-tail nat_eq i (ids c ++ ids (plug h old)) d) in
      let front_all = IsDistinct-head nat_eq i (ids c ++ ids (plug h old)) d in
      IsDistinct-cons nat_eq i (ids c ++ ids (plug h new))
      (all-join (IsNot i) (ids c) (ids (plug h new)) (all-left (IsNot i) (ids c) (ids (plug h old)) front_all)
      (all-plug old new k (IsNot i) h (all-right (IsNot i) (ids c) (ids (plug h old)) front_all)))
      (distinct-join (ids c) (ids (plug h new)) p.left (distinct-plug old new k h p.right)
      (each (λ x. AllByRecursion (IsNot x) (ids (plug h old))) (λ x. AllByRecursion (IsNot x) (ids (plug h new))) (ids c)
      (λ x a. all-plug old new k (IsNot x) h a) p.between))
  distinct-plug old new k (in_group i w h u) d =
      let p = apart_parts (ids (plug h old)) (ids u) (IsDistinct-tail nat_eq i (ids (plug h old) ++ ids u) d) in
      let front_all = IsDistinct-head nat_eq i (ids (plug h old) ++ ids u) d in
      IsDistinct-cons nat_eq i (ids (plug h new) ++ ids u)
      (all-join (IsNot i) (ids (plug h new)) (ids u)
      (all-plug old new k (IsNot i) h (all-left (IsNot i) (ids (plug h old)) (ids u) front_all))
      (all-right (IsNot i) (ids (plug h old)) (ids u) front_all))
      (distinct-join (ids (plug h new)) (ids u) (distinct-plug old new k h p.left) p.right
      (all-plug old new k (λ x. AllByRecursion (IsNot x) (ids u)) h p.between))

  pub ids-above : (a b : Forest L G) → ids (above a b) ≡ ids a ++ ids b
  ids-above none b = refl
  ids-above (leaf i w u) b = ap (λ xs. i ∷ xs) (ids-above u b)
  ids-above (group i w c u) b =
      ap (λ xs. i ∷ xs) (ap (λ xs. ids c ++ xs) (ids-above u b) ∙ sym (append_assoc (ids c) (ids u) (ids b)))

  -- without what is on top there are fewer
  pub fewer_under : (a b : Forest L G) → FewerIds (above a b) b
  fewer_under a b = record {
    all = λ P h. all-right P (ids a) (ids b) (let Q : List ℕ → Type 0 = λ xs. AllByRecursion P xs in subst Q (ids-above a b) h);
    distinct =
        λ d. distinct-right (ids a) (ids b) (let Q : List ℕ → Type 0 = λ xs. IsDistinct nat_eq xs in subst Q (ids-above a b) d);
  }
