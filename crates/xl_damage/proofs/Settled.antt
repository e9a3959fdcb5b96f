-- The damage is the same whichever free id a new node takes, and whatever a filter answers.
use Rattle.std.proofs.Common.{◌≡◌, ℕ, ◌≤◌, Bool, true, false, cond, eqb, nat_eq, List, [], ◌∷◌, ◌++◌, inl, refl, sym}
use Rattle.std.proofs.Common.{◌∙◌, subst, ap, arith, eq-eqb}
use Rattle.std.specs.Prelude.{Option, Some, None, not, filter, flat_map, map, option_map, unwrap_or}
use Rattle.std.specs.List.{AllByRecursion, IsDistinct}
use Rattle.spec_document.specs.Forest.{group, ids, find, nothing, ancestors}
use Rattle.spec_document.specs.Holes.{Hole, here, under_leaf, under_group, in_group, plug}
use Rattle.spec_document.proofs.Holes.{plug-into}
use Rattle.spec_document.proofs.Standing.{Fresh, groups, ancestors-plug, ancestors-of_group}
use Rattle.spec_document.proofs.Distinct.{Member, member-plug}
use Rattle.spec_document.proofs.Outside.{fresh_from}
use Rattle.spec_document.specs.declared.Rect.{Rect}
use Rattle.spec_document.specs.Rect.{is_empty, meet, sheet}
use Rattle.spec_document.specs.Document.{Document, Nodes, Layer, Group}
use Rattle.spec_document.specs.Picture.{rect_found}
use Rattle.spec_damage.specs.Damage.{Pair, cut, with_above, joined, stacks_above, stack_of, first_or, or_lower}
use Rattle.spec_damage.specs.Damage.{bottom_of, bottom_visible, bottom_pairs, extent_pair, extent_if_any, same_id}
use Rattle.spec_damage.proofs.Entries.{Entry, entries, bottom_id, bottom-entries, Lacks, same-turned}
use Rattle.spec_damage.proofs.Stacks.{flat, core, core-is_flat, stack_round, groups-flat, groups-deep, Placed, top}
use Rattle.spec_damage.proofs.Stacks.{deep, placed, not_zero, member_positive, stack_of-plug}
use Rattle.spec_damage.proofs.Counts.{times, times-plug, not_found}
use Rattle.spec_damage.proofs.Changed.{front, entries-plug}
use Rattle.spec_damage.proofs.Sources.{known_round}
use Rattle.spec_damage.proofs.Structure.{bottom_known, lacks_nodes, lacks_front, fresh-core}
use Rattle.spec_damage.proofs.NewEdits.{distinct_more, all_more}
use Rattle.xl_regions.specs.Pairs.{spread}

abbrev pub AreOwn : Nodes → Type 0
AreOwn f = IsDistinct nat_eq (ids f) × AllByRecursion (λ i. 1 ≤ i) (ids f)

-- the stacks above a pair's stack are the same in both
abbrev SameAbove : (a b : Nodes) → Pair → Type 0
SameAbove a b p = stacks_above a p.stack ≡ stacks_above b p.stack

pub spread_same : (old : Document) (a b : Nodes) (ps : List Pair) → AllByRecursion (SameAbove a b) ps
    → spread old (record old { nodes = a }) ps ≡ spread old (record old { nodes = b }) ps
spread_same old a b [] h = refl
spread_same old a b (p ∷ ps) h = step (is_empty (cut old p).rect) (spread_same old a b ps h.1) where
  rest : List Pair
  rest = filter (λ q. not (is_empty q.rect)) (map (cut old) ps)

  step : (e : Bool) → spread old (record old { nodes = a }) ps ≡ spread old (record old { nodes = b }) ps
      → flat_map (with_above old (record old { nodes = a }))
      (cond (not e) (cut old p ∷ filter (λ q. not (is_empty q.rect)) (map (cut old) ps))
      (filter (λ q. not (is_empty q.rect)) (map (cut old) ps)))
      ≡ flat_map (with_above old (record old { nodes = b }))
      (cond (not e) (cut old p ∷ filter (λ q. not (is_empty q.rect)) (map (cut old) ps))
      (filter (λ q. not (is_empty q.rect)) (map (cut old) ps)))
  step true more = more
  step false more = λ i. (cut old p
      ∷ map (λ above. record { stack = above; rect = (cut old p).rect }) (joined (stacks_above old.nodes p.stack) (h.0 i)))
      ++ more i

-- ---- a hole, whatever is in it

same_round : (h : Hole Layer Group) (f x : Nodes) → AreOwn (plug h f) → AreOwn (plug h x)
    → stacks_above (plug h x) (stack_round h) ≡ stacks_above (plug h f) (stack_round h)
same_round h f x own_f own_x = from (placed h) where
  from : Placed h → stacks_above (plug h x) (stack_round h) ≡ stacks_above (plug h f) (stack_round h)
  from (top is) =
      let image : stack_round h ≡ 0 = ap (λ gs. first_or 0 (gs ++ 0 ∷ [])) (groups-flat h is) in
      ap (λ s. stacks_above (plug h x) s) image ∙ ap (λ s. stacks_above (plug h f) s) (sym image)
  from (deep o s g k u is is_flat) =
      ap (λ j. stacks_above (plug h x) j) own
      ∙ (up x own_x ∙ (sym (up f own_f) ∙ ap (λ j. stacks_above (plug h f) j) (sym own))) where
        own : stack_round h ≡ s
        own = ap (λ gs. first_or 0 (gs ++ 0 ∷ [])) (ap groups is ∙ groups-deep o s g k u is_flat)

        up : (z : Nodes) → AreOwn (plug h z) → stacks_above (plug h z) s ≡ groups o ++ 0 ∷ []
        up z own_z =
            let whole : plug h z ≡ plug o (group s g (plug k z) u) = ap (λ j. plug j z) is ∙ plug-into o (in_group s g k u) z in
            let there : Member s (ids (plug o (group s g (plug k z) u))) = member-plug s o (group s g (plug k z) u) (inl refl) in
            let D : Nodes → Type 0 = λ y. IsDistinct nat_eq (ids y) in
            let P : Nodes → Type 0 = λ y. AllByRecursion (λ id. 1 ≤ id) (ids y) in
            let some : eqb s 0 ≡ false = not_zero s
            (member_positive s (ids (plug o (group s g (plug k z) u))) (subst P whole own_z.1) there) in
            let fresh : Fresh s o = fresh_from s o (group s g (plug k z) u) (subst D whole own_z.0) (inl refl) in
            let known : ancestors s (plug h z) ≡ Some (groups o) = ap (ancestors s) whole
            ∙ ancestors-plug s o (group s g (plug k z) u) fresh (ancestors-of_group s g (plug k z) u) in
            ap (λ b. cond b [] (unwrap_or (option_map (λ above. above ++ 0 ∷ []) (ancestors s (plug h z))) [])) some
            ∙ ap (λ q. unwrap_or (option_map (λ above. above ++ 0 ∷ []) q) []) known

bottom_plug : (k : Hole Layer Group) (f x : Nodes) → bottom_of f ≡ bottom_of x → bottom_of (plug k f) ≡ bottom_of (plug k x)
bottom_plug here f x e = e
bottom_plug (under_leaf i w k) f x e = ap (λ o. or_lower o w.visible i) (bottom_plug k f x e)
bottom_plug (under_group i w c k) f x e = ap (λ o. or_lower o w.visible i) (bottom_plug k f x e)
bottom_plug (in_group i w k u) f x e = refl

bottom_in : (k : Hole Layer Group) (x : Nodes) (n : ℕ) → flat k ≡ true → bottom_of x ≡ Some n → bottom_of (plug k x) ≡ Some n
bottom_in here x n is e = e
bottom_in (under_leaf i w k) x n is e = ap (λ o. or_lower o w.visible i) (bottom_in k x n is e)
bottom_in (under_group i w c k) x n is e = ap (λ o. or_lower o w.visible i) (bottom_in k x n is e)
bottom_in (in_group i w k u) x n is e = cc

same-refl : (o : Option ℕ) → same_id o o ≡ true
same-refl None = refl
same-refl (Some i) = eq-eqb i i refl

lacks_it : (n : ℕ) (es : List Entry) → Lacks n es → same_id (bottom_id es) (Some n) ≡ false
lacks_it n [] h = refl
lacks_it n (e ∷ es) h = step (bottom_id es) e.visible (lacks_it n es h.1) where
  step : (o : Option ℕ) (visible : Bool) → same_id o (Some n) ≡ false → same_id (or_lower o visible e.id) (Some n) ≡ false
  step (Some b) visible k = k
  step None true k = same-turned (Some n) (Some e.id) h.0
  step None false k = refl

-- ---- a new node

-- its pairs, by what the stack has below its place
abbrev pub canon : Document → (stack : ℕ) → Rect → (lower : Option ℕ) → List Pair
canon old stack rect (Some j) = record { stack = stack; rect = rect } ∷ []
canon old stack rect None = record { stack = stack; rect = rect }
    ∷ (extent_if_any old stack (bottom_visible old stack) ++ record { stack = stack; rect = rect } ∷ [])

-- a node that is put into a hole, visible and with a free id
pub record IsPut (h : Hole Layer Group) (f x : Nodes) (n : ℕ) (r : Rect) : Type 0 where
  pub some : 1 ≤ n
  pub free : times n (ids (plug h f)) ≡ 0
  pub more : ids x ≡ n ∷ ids f
  pub alone : ancestors n x ≡ Some []
  pub found : Fresh n h → rect_found (find n (plug h x)) ≡ r
  pub shown : bottom_of x ≡ or_lower (bottom_of f) true n

own_after : (h : Hole Layer Group) (f x : Nodes) (n : ℕ) (r : Rect) → AreOwn (plug h f) → IsPut h f x n r → AreOwn (plug h x)
own_after h f x n r own p = (distinct_more n h f x p.more p.free own.0, all_more (λ i. 1 ≤ i) n h f x p.more p.some own.1)

new_pairs : (d : Document) (h : Hole Layer Group) (f x : Nodes) (n : ℕ) (r : Rect) → AreOwn (plug h f) → IsPut h f x n r
    → extent_pair (record d { nodes = plug h x }) n
    ++ bottom_pairs (record d { nodes = plug h f }) (record d { nodes = plug h x }) (stack_round h)
    ≡ canon (record d { nodes = plug h f }) (stack_round h) (meet r (sheet d.width d.height)) (bottom_of f)
new_pairs d h f x n r own p = (λ i. place i ++ bottom_pairs old new s) ∙ step (bottom_of f) refl where
  old : Document
  old = record d { nodes = plug h f }

  new : Document
  new = record d { nodes = plug h x }

  s : ℕ
  s = stack_round h

  own' : AreOwn (plug h x)
  own' = own_after h f x n r own p

  fresh : Fresh n h
  fresh = fresh_from n h x own'.0 (subst (Member n) (sym p.more) (inl refl))

  stands : stack_of (plug h x) n ≡ stack_round h
  stands = stack_of-plug n h x (not_zero n p.some) fresh p.alone

  place : extent_pair (record d { nodes = plug h x }) n ≡ record { stack = stack_round h; rect = meet r (sheet d.width d.height) }
      ∷ []
  place = λ i. record { stack = stands i; rect = meet (p.found fresh i) (sheet d.width d.height) } ∷ []

  before : bottom_visible (record d { nodes = plug h f }) (stack_round h) ≡ bottom_of (plug (core h) f)
  before = bottom_known (record d { nodes = plug h f }) (stack_round h) (plug (core h) f) (known_round h f own.0 own.1).at

  after : bottom_visible (record d { nodes = plug h x }) (stack_round h) ≡ bottom_of (plug (core h) x)
  after = bottom_known (record d { nodes = plug h x }) (stack_round h) (plug (core h) x) (known_round h x own'.0 own'.1).at

  listed : Bool → Option ℕ → List Pair
  listed b o =
      cond b [] (extent_if_any (record d { nodes = plug h f }) (stack_round h)
      (bottom_visible (record d { nodes = plug h f }) (stack_round h))
      ++ extent_if_any (record d { nodes = plug h x }) (stack_round h) o)

  step : (lower : Option ℕ) → bottom_of f ≡ lower
      → record { stack = stack_round h; rect = meet r (sheet d.width d.height) }
      ∷ bottom_pairs (record d { nodes = plug h f }) (record d { nodes = plug h x }) (stack_round h)
      ≡ canon (record d { nodes = plug h f }) (stack_round h) (meet r (sheet d.width d.height)) lower
  step (Some j) e =
      let same : bottom_of f ≡ bottom_of x = e ∙ sym (p.shown ∙ ap (λ o. or_lower o true n) e) in
      let one : bottom_visible (record d { nodes = plug h f }) (stack_round h)
      ≡ bottom_visible (record d { nodes = plug h x }) (stack_round h) = before ∙ (bottom_plug (core h) f x same ∙ sym after) in
      let yes_same : same_id (bottom_visible (record d { nodes = plug h f }) (stack_round h))
      (bottom_visible (record d { nodes = plug h x }) (stack_round h)) ≡ true =
      ap (λ o. same_id (bottom_visible (record d { nodes = plug h f }) (stack_round h)) o) (sym one)
      ∙ same-refl (bottom_visible (record d { nodes = plug h f }) (stack_round h)) in
      ap (λ b. record { stack = stack_round h; rect = meet r (sheet d.width d.height) }
      ∷ listed b (bottom_visible (record d { nodes = plug h x }) (stack_round h))) yes_same
  step None e =
      let its : bottom_visible (record d { nodes = plug h x }) (stack_round h) ≡ Some n = after
      ∙ bottom_in (core h) x n (core-is_flat h) (p.shown ∙ ap (λ o. or_lower o true n) e) in
      let lone : find n f ≡ nothing = not_found n f (omega (arith, times-plug n h f, p.free)) in
      let lacks : Lacks n (front d.colours 0 0 (core h) ++ entries d.colours 0 0 f) =
      lacks_front d.colours 0 0 n (core h) (entries d.colours 0 0 f) (fresh-core n h fresh) (lacks_nodes d.colours 0 0 n f lone) in
      let seen : bottom_visible (record d { nodes = plug h f }) (stack_round h)
      ≡ bottom_id (front d.colours 0 0 (core h) ++ entries d.colours 0 0 f) =
      before ∙ (bottom-entries d.colours 0 0 (plug (core h) f)
      ∙ ap bottom_id (entries-plug d.colours 0 0 (core h) f (core-is_flat h))) in
      let differ : same_id (bottom_visible (record d { nodes = plug h f }) (stack_round h)) (Some n) ≡ false =
      ap (λ o. same_id o (Some n)) seen ∙ lacks_it n (front d.colours 0 0 (core h) ++ entries d.colours 0 0 f) lacks in
      ap (λ o. record { stack = stack_round h; rect = meet r (sheet d.width d.height) }
      ∷ listed (same_id (bottom_visible (record d { nodes = plug h f }) (stack_round h)) o) o) its
      ∙ (ap (λ b. record { stack = stack_round h; rect = meet r (sheet d.width d.height) } ∷ listed b (Some n)) differ
      ∙ ap (λ z. record { stack = stack_round h; rect = meet r (sheet d.width d.height) }
      ∷ (extent_if_any (record d { nodes = plug h f }) (stack_round h)
      (bottom_visible (record d { nodes = plug h f }) (stack_round h))
      ++ record { stack = stack_round h; rect = meet z (sheet d.width d.height) } ∷ [])) (p.found fresh))

canon_same : (old : Document) (a b : Nodes) (stack : ℕ) (rect : Rect) (lower : Option ℕ)
    → stacks_above a stack ≡ stacks_above b stack
    → AllByRecursion (SameAbove a b) (canon old stack rect lower)
canon_same old a b stack rect (Some j) e = (e, tt)
canon_same old a b stack rect None e = (e, step (bottom_visible old stack)) where
  step : (o : Option ℕ) → AllByRecursion (SameAbove a b) (extent_if_any old stack o ++ record { stack = stack; rect = rect } ∷ [])
  step None = (e, tt)
  step (Some j) = (e, (e, tt))

-- what a new node's pairs come to does not depend on its id
pub new_spread : (d : Document) (h : Hole Layer Group) (f x : Nodes) (n : ℕ) (r : Rect) → AreOwn (plug h f) → IsPut h f x n r
    → spread (record d { nodes = plug h f }) (record d { nodes = plug h x })
    (extent_pair (record d { nodes = plug h x }) n
    ++ bottom_pairs (record d { nodes = plug h f }) (record d { nodes = plug h x }) (stack_round h))
    ≡ spread (record d { nodes = plug h f }) (record d { nodes = plug h f })
    (canon (record d { nodes = plug h f }) (stack_round h) (meet r (sheet d.width d.height)) (bottom_of f))
new_spread d h f x n r own p =
    let old : Document = record d { nodes = plug h f } in
    ap (λ ps. spread (record d { nodes = plug h f }) (record d { nodes = plug h x }) ps) (new_pairs d h f x n r own p)
    ∙ spread_same (record d { nodes = plug h f }) (plug h x) (plug h f)
    (canon (record d { nodes = plug h f }) (stack_round h) (meet r (sheet d.width d.height)) (bottom_of f))
    (canon_same (record d { nodes = plug h f }) (plug h x) (plug h f) (stack_round h) (meet r (sheet d.width d.height))
    (bottom_of f) (same_round h f x own (own_after h f x n r own p)))
