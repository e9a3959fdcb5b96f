-- A forest with a hole: where a node stands, and where one may be put.
use Rattle.std.proofs.Common.{◌≡◌, ℕ, zero, suc, ◌+◌, ◌≤◌, max, List, [], ◌∷◌, length, refl, sym, ◌∙◌, ap, arith}
use Rattle.std.specs.Prelude.{Option, Some, None, option_map}
use Rattle.spec_document.specs.Forest.{Forest, none, leaf, group, size, levels}
use Rattle.spec_document.specs.Changes.{above, put_at, put_last}
use Rattle.spec_document.specs.Holes.{from_place, Hole, here, under_leaf, under_group, in_group, plug, depth, passed}

-- one hole in another
abbrev pub into : {L G : Type 0} → Hole L G → Hole L G → Hole L G
into here inner = inner
into (under_leaf id w h) inner = under_leaf id w (into h inner)
into (under_group id w c h) inner = under_group id w c (into h inner)
into (in_group id w h u) inner = in_group id w (into h inner) u

module _ {L G : Type 0} where
  pub plug-into : (h inner : Hole L G) (f : Forest L G) → plug (into h inner) f ≡ plug h (plug inner f)
  plug-into here inner f = refl
  plug-into (under_leaf id w h) inner f = ap (leaf id w) (plug-into h inner f)
  plug-into (under_group id w c h) inner f = ap (group id w c) (plug-into h inner f)
  plug-into (in_group id w h u) inner f = ap (λ x. group id w x u) (plug-into h inner f)

  pub depth-into : (h inner : Hole L G) → depth (into h inner) ≡ depth h + depth inner
  depth-into here inner = omega arith
  depth-into (under_leaf id w h) inner = depth-into h inner
  depth-into (under_group id w c h) inner = depth-into h inner
  depth-into (in_group id w h u) inner = omega (arith, depth-into h inner)

  pub passed-into : (h inner : Hole L G) → passed (into h inner) ≡ passed h + passed inner
  passed-into here inner = omega arith
  passed-into (under_leaf id w h) inner = omega (arith, passed-into h inner)
  passed-into (under_group id w c h) inner = omega (arith, passed-into h inner)
  passed-into (in_group id w h u) inner = omega (arith, passed-into h inner)

  -- a smaller part gives no deeper forest, and a new one no deeper than it lies
  pub levels-plug : (h : Hole L G) (old new : Forest L G) → levels (plug h new) ≤ max (levels (plug h old)) (depth h + levels new)
  levels-plug here old new = omega arith
  levels-plug (under_leaf id w h) old new = omega (arith, levels-plug h old new)
  levels-plug (under_group id w c h) old new = omega (arith, levels-plug h old new)
  levels-plug (in_group id w h u) old new = omega (arith, levels-plug h old new)

  -- what is in the hole lies below its groups
  pub depth_below_levels : (h : Hole L G) (f : Forest L G) → depth h + levels f ≤ levels (plug h f)
  depth_below_levels here f = omega arith
  depth_below_levels (under_leaf id w h) f = omega (arith, depth_below_levels h f)
  depth_below_levels (under_group id w c h) f = omega (arith, depth_below_levels h f)
  depth_below_levels (in_group id w h u) f = omega (arith, depth_below_levels h f)

  pub size-plug : (h : Hole L G) (old new : Forest L G) → size (plug h new) + size old ≡ size (plug h old) + size new
  size-plug here old new = omega arith
  size-plug (under_leaf id w h) old new = omega (arith, size-plug h old new)
  size-plug (under_group id w c h) old new = omega (arith, size-plug h old new)
  size-plug (in_group id w h u) old new = omega (arith, size-plug h old new)

  pub passed_within : (h : Hole L G) (f : Forest L G) → passed h + size f ≤ size (plug h f)
  passed_within here f = omega arith
  passed_within (under_leaf id w h) f = omega (arith, passed_within h f)
  passed_within (under_group id w c h) f = omega (arith, passed_within h f)
  passed_within (in_group id w h u) f = omega (arith, passed_within h f)

-- the place under the last node at the top
abbrev pub at_end : {L G : Type 0} → Forest L G → Hole L G
at_end none = here
at_end (leaf id w u) = under_leaf id w (at_end u)
at_end (group id w c u) = under_group id w c (at_end u)

-- the place under the last child of the group that a path names
abbrev pub hole_last : {L G : Type 0} → (path : List ℕ) → Forest L G → Option (Hole L G)
hole_last [] f = Some (at_end f)
hole_last (place ∷ path) none = None
hole_last (zero ∷ path) (leaf id w u) = None
hole_last (zero ∷ path) (group id w c u) = option_map (λ h. in_group id w h u) (hole_last path c)
hole_last (suc place ∷ path) (leaf id w u) = option_map (under_leaf id w) (hole_last (place ∷ path) u)
hole_last (suc place ∷ path) (group id w c u) = option_map (under_group id w c) (hole_last (place ∷ path) u)

module _ {L G : Type 0} where
  pub above-none : (f : Forest L G) → above f none ≡ f
  above-none none = refl
  above-none (leaf id w u) = ap (leaf id w) (above-none u)
  above-none (group id w c u) = ap (group id w c) (above-none u)

  pub plug-at_end : (f b : Forest L G) → plug (at_end f) b ≡ above f b
  plug-at_end none b = refl
  plug-at_end (leaf id w u) b = ap (leaf id w) (plug-at_end u b)
  plug-at_end (group id w c u) b = ap (group id w c) (plug-at_end u b)

  pub depth-at_end : (f : Forest L G) → depth (at_end f) ≡ 0
  depth-at_end none = refl
  depth-at_end (leaf id w u) = depth-at_end u
  depth-at_end (group id w c u) = depth-at_end u

  pub passed-at_end : (f : Forest L G) → passed (at_end f) ≡ size f
  passed-at_end none = refl
  passed-at_end (leaf id w u) = omega (arith, passed-at_end u)
  passed-at_end (group id w c u) = omega (arith, passed-at_end u)

-- an option that was mapped twice
option_map_twice : {A B C : Type 0} (f : A → B) (g : B → C) (o : Option A)
    → option_map g (option_map f o) ≡ option_map (λ x. g (f x)) o
option_map_twice f g None = refl
option_map_twice f g (Some x) = refl

module _ {L G : Type 0} where
  -- what goes last in a group goes into the hole there
  pub put_last-hole : (path : List ℕ) (b f : Forest L G) → put_last path b f ≡ option_map (λ h. plug h b) (hole_last path f)
  put_last-hole [] b f = ap Some (sym (plug-at_end f b))
  put_last-hole (place ∷ path) b none = refl
  put_last-hole (zero ∷ path) b (leaf id w u) = refl
  put_last-hole (zero ∷ path) b (group id w c u) =
      ap (option_map (λ x. group id w x u)) (put_last-hole path b c)
      ∙ (option_map_twice (λ h. plug h b) (λ x. group id w x u) (hole_last path c)
      ∙ sym (option_map_twice (λ h. in_group id w h u) (λ h. plug h b) (hole_last path c)))
  put_last-hole (suc place ∷ path) b (leaf id w u) =
      ap (option_map (leaf id w)) (put_last-hole (place ∷ path) b u)
      ∙ (option_map_twice (λ h. plug h b) (leaf id w) (hole_last (place ∷ path) u)
      ∙ sym (option_map_twice (under_leaf id w) (λ h. plug h b) (hole_last (place ∷ path) u)))
  put_last-hole (suc place ∷ path) b (group id w c u) =
      ap (option_map (group id w c)) (put_last-hole (place ∷ path) b u)
      ∙ (option_map_twice (λ h. plug h b) (group id w c) (hole_last (place ∷ path) u)
      ∙ sym (option_map_twice (under_group id w c) (λ h. plug h b) (hole_last (place ∷ path) u)))

  mapped_hole : (f : Hole L G → Hole L G) (o : Option (Hole L G)) (h : Hole L G) → option_map f o ≡ Some h
      → (x : Hole L G) × (o ≡ Some x) × (f x ≡ h)
  mapped_hole f None h e = cc
  mapped_hole f (Some x) h e = (x, refl, cc)

  -- the hole is one of this forest, as deep as the path is long
  pub plug-hole_last : (path : List ℕ) (f : Forest L G) (h : Hole L G) → hole_last path f ≡ Some h → plug h none ≡ f
  plug-hole_last [] f h e = let is : at_end f ≡ h = cc in ap (λ x. plug x none) (sym is) ∙ (plug-at_end f none ∙ above-none f)
  plug-hole_last (place ∷ path) none h e = cc
  plug-hole_last (zero ∷ path) (leaf id w u) h e = cc
  plug-hole_last (zero ∷ path) (group id w c u) h e =
      let m = mapped_hole (λ x. in_group id w x u) (hole_last path c) h e in
      ap (λ x. plug x none) (sym m.2) ∙ ap (λ x. group id w x u) (plug-hole_last path c m.0 m.1)
  plug-hole_last (suc place ∷ path) (leaf id w u) h e =
      let m = mapped_hole (under_leaf id w) (hole_last (place ∷ path) u) h e in
      ap (λ x. plug x none) (sym m.2) ∙ ap (leaf id w) (plug-hole_last (place ∷ path) u m.0 m.1)
  plug-hole_last (suc place ∷ path) (group id w c u) h e =
      let m = mapped_hole (under_group id w c) (hole_last (place ∷ path) u) h e in
      ap (λ x. plug x none) (sym m.2) ∙ ap (group id w c) (plug-hole_last (place ∷ path) u m.0 m.1)

  pub depth-hole_last : (path : List ℕ) (f : Forest L G) (h : Hole L G) → hole_last path f ≡ Some h → depth h ≡ length path
  depth-hole_last [] f h e = let is : at_end f ≡ h = cc in ap depth (sym is) ∙ depth-at_end f
  depth-hole_last (place ∷ path) none h e = cc
  depth-hole_last (zero ∷ path) (leaf id w u) h e = cc
  depth-hole_last (zero ∷ path) (group id w c u) h e =
      let m = mapped_hole (λ x. in_group id w x u) (hole_last path c) h e in
      ap depth (sym m.2) ∙ omega (arith, depth-hole_last path c m.0 m.1)
  depth-hole_last (suc place ∷ path) (leaf id w u) h e =
      let m = mapped_hole (under_leaf id w) (hole_last (place ∷ path) u) h e in
      ap depth (sym m.2) ∙ depth-hole_last (place ∷ path) u m.0 m.1
  depth-hole_last (suc place ∷ path) (group id w c u) h e =
      let m = mapped_hole (under_group id w c) (hole_last (place ∷ path) u) h e in
      ap depth (sym m.2) ∙ depth-hole_last (place ∷ path) u m.0 m.1

-- the place of the node that is so many from the top
abbrev pub hole_at : {L G : Type 0} → (place : ℕ) → Forest L G → Hole L G
hole_at zero f = here
hole_at (suc place) none = here
hole_at (suc place) (leaf id w u) = under_leaf id w (hole_at place u)
hole_at (suc place) (group id w c u) = under_group id w c (hole_at place u)

module _ {L G : Type 0} where
  pub plug-hole_at : (place : ℕ) (f : Forest L G) → plug (hole_at place f) (from_place place f) ≡ f
  plug-hole_at zero f = refl
  plug-hole_at (suc place) none = refl
  plug-hole_at (suc place) (leaf id w u) = ap (leaf id w) (plug-hole_at place u)
  plug-hole_at (suc place) (group id w c u) = ap (group id w c) (plug-hole_at place u)

  pub depth-hole_at : (place : ℕ) (f : Forest L G) → depth (hole_at place f) ≡ 0
  depth-hole_at zero f = refl
  depth-hole_at (suc place) none = refl
  depth-hole_at (suc place) (leaf id w u) = depth-hole_at place u
  depth-hole_at (suc place) (group id w c u) = depth-hole_at place u

  pub passed-hole_at : (place : ℕ) (f : Forest L G) → passed (hole_at place f) + size (from_place place f) ≡ size f
  passed-hole_at zero f = omega arith
  passed-hole_at (suc place) none = refl
  passed-hole_at (suc place) (leaf id w u) = omega (arith, passed-hole_at place u)
  passed-hole_at (suc place) (group id w c u) = omega (arith, passed-hole_at place u)

  -- what is put in at a place goes into the hole there
  pub put_at-hole : (b : Forest L G) (place : ℕ) (f : Forest L G)
      → put_at b place f ≡ plug (hole_at place f) (above b (from_place place f))
  put_at-hole b zero f = refl
  put_at-hole b (suc place) none = refl
  put_at-hole b (suc place) (leaf id w u) = ap (leaf id w) (put_at-hole b place u)
  put_at-hole b (suc place) (group id w c u) = ap (group id w c) (put_at-hole b place u)
