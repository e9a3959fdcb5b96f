-- The end of the group that a path names.
use Rattle.std.proofs.Common.{◌≡◌, ℕ, zero, suc, ◌+◌, ◌-◌, ◌<◌, ◌≤◌, List, [], ◌∷◌, length, get_or, drop, refl, sym}
use Rattle.std.proofs.Common.{◌∙◌, ap, add-one, arith}
use Rattle.std.proofs.lemmas.List.{drop_more}
use Rattle.std.specs.Prelude.{Option, Some, None, option_map, is_some, IsSome}
use Rattle.spec_document.specs.Forest.{Forest, none, leaf, group, size}
use Rattle.spec_document.specs.Changes.{put_last}
use Rattle.spec_document.specs.Holes.{plug, passed, in_group, under_leaf, under_group}
use Rattle.spec_document.proofs.Holes.{hole_last, passed-at_end, put_last-hole}
use Rattle.spec_document.specs.Holes.{from_place}
use Rattle.xl_tree.specs.Places.{end_at}

twice : {A B C : Type 0} (f : A → B) (g : B → C) (o : Option A) → option_map g (option_map f o) ≡ option_map (λ x. g (f x)) o
twice f g None = refl
twice f g (Some x) = refl

same_map : {A B : Type 0} (f g : A → B) (o : Option A) → ((x : A) → f x ≡ g x) → option_map f o ≡ option_map g o
same_map f g None e = refl
same_map f g (Some x) e = ap Some (e x)

is_some_map : {A B : Type 0} (f : A → B) (o : Option A) → is_some (option_map f o) ≡ is_some o
is_some_map f None = refl
is_some_map f (Some x) = refl

module _ {L G : Type 0} where
  pub size-from_place : (place : ℕ) (f : Forest L G) → size (from_place place f) ≤ size f
  size-from_place zero f = omega arith
  size-from_place (suc place) none = omega arith
  size-from_place (suc place) (leaf id w u) = omega (arith, size-from_place place u)
  size-from_place (suc place) (group id w c u) = omega (arith, size-from_place place u)

  from_place_suc : (i : ℕ) (f : Forest L G) → from_place (suc i) f ≡ from_place 1 (from_place i f)
  from_place_suc zero f = refl
  from_place_suc (suc i) none = refl
  from_place_suc (suc i) (leaf id w u) = from_place_suc i u
  from_place_suc (suc i) (group id w c u) = from_place_suc i u

  -- a step of a path into a group
  pub end_at_group : (place : ℕ) (path : List ℕ) (f c u : Forest L G) (id : ℕ) (w : G) (k : ℕ) → from_place place f ≡ group id w c u
      → k + (size c + size u) ≡ size f → end_at (place ∷ path) f ≡ option_map (λ n. k + n) (end_at path c)
  end_at_group zero path none c u id w k e s = cc
  end_at_group (suc place) path none c u id w k e s = cc
  end_at_group zero path (leaf i v x) c u id w k e s = cc
  end_at_group zero path (group i v d x) c u id w k e s =
      let children : d ≡ c = cc in
      let under : x ≡ u = cc in
      let one : 1 ≡ k = omega (arith, s, ap size children, ap size under) in
      λ j. option_map (λ n. one j + n) (end_at path (children j))
  end_at_group (suc place) path (leaf i v x) c u id w k e s =
      let within = size-from_place place x in
      let smaller : (k - 1) + (size c + size u) ≡ size x = omega (arith, s, within, ap size e) in
      ap (option_map (λ n. 1 + n)) (end_at_group place path x c u id w (k - 1) e smaller)
      ∙ (twice (λ n. (k - 1) + n) (λ n. 1 + n) (end_at path c)
      ∙ same_map _ (λ n. k + n) (end_at path c) (λ n. omega (arith, s, within, ap size e)))
  end_at_group (suc place) path (group i v d x) c u id w k e s =
      let within = size-from_place place x in
      let smaller : (k - (1 + size d)) + (size c + size u) ≡ size x = omega (arith, s, within, ap size e) in
      ap (option_map (λ n. 1 + size d + n)) (end_at_group place path x c u id w (k - (1 + size d)) e smaller)
      ∙ (twice (λ n. (k - (1 + size d)) + n) (λ n. 1 + size d + n) (end_at path c)
      ∙ same_map _ (λ n. k + n) (end_at path c) (λ n. omega (arith, s, within, ap size e)))

  -- a path past the end, and one into a leaf
  pub end_at_none : (place : ℕ) (path : List ℕ) (f : Forest L G) → from_place place f ≡ none → end_at (place ∷ path) f ≡ None
  end_at_none place path none e = refl
  end_at_none zero path (leaf i v x) e = cc
  end_at_none zero path (group i v d x) e = cc
  end_at_none (suc place) path (leaf i v x) e = ap (option_map (λ n. 1 + n)) (end_at_none place path x e)
  end_at_none (suc place) path (group i v d x) e = ap (option_map (λ n. 1 + size d + n)) (end_at_none place path x e)

  pub end_at_leaf : (place : ℕ) (path : List ℕ) (f u : Forest L G) (id : ℕ) (w : L) → from_place place f ≡ leaf id w u
      → end_at (place ∷ path) f ≡ None
  end_at_leaf place path none u id w e = refl
  end_at_leaf zero path (leaf i v x) u id w e = refl
  end_at_leaf zero path (group i v d x) u id w e = cc
  end_at_leaf (suc place) path (leaf i v x) u id w e = ap (option_map (λ n. 1 + n)) (end_at_leaf place path x u id w e)
  end_at_leaf (suc place) path (group i v d x) u id w e = ap (option_map (λ n. 1 + size d + n)) (end_at_leaf place path x u id w e)

  -- one place further
  pub from_place_under_leaf : (i : ℕ) (f u : Forest L G) (id : ℕ) (w : L) → from_place i f ≡ leaf id w u → from_place (i + 1) f ≡ u
  from_place_under_leaf i f u id w e = rw add-one (from_place_suc i f ∙ ap (from_place 1) e)

  pub from_place_under_group : (i : ℕ) (f c u : Forest L G) (id : ℕ) (w : G) → from_place i f ≡ group id w c u
      → from_place (i + 1) f ≡ u
  from_place_under_group i f c u id w e = rw add-one (from_place_suc i f ∙ ap (from_place 1) e)

  -- past the end there is nothing
  pub from_place_past : (i place : ℕ) (f : Forest L G) → from_place i f ≡ none → i ≤ place → from_place place f ≡ none
  from_place_past i zero f e h = let z : i ≡ 0 = omega (arith, h) in sym (ap (λ k. from_place k f) z) ∙ e
  from_place_past i (suc place) none e h = refl
  from_place_past zero (suc place) (leaf id w u) e h = cc
  from_place_past zero (suc place) (group id w c u) e h = cc
  from_place_past (suc i) (suc place) (leaf id w u) e h = from_place_past i place u e (omega (arith, h))
  from_place_past (suc i) (suc place) (group id w c u) e h = from_place_past i place u e (omega (arith, h))

  -- the end is where the hole is
  pub end_at-hole : (path : List ℕ) (f : Forest L G) → end_at path f ≡ option_map passed (hole_last path f)
  end_at-hole [] f = ap Some (sym (passed-at_end f))
  end_at-hole (place ∷ path) none = refl
  end_at-hole (zero ∷ path) (leaf id w u) = refl
  end_at-hole (zero ∷ path) (group id w c u) =
      ap (option_map (λ n. 1 + n)) (end_at-hole path c)
      ∙ (twice passed (λ n. 1 + n) (hole_last path c) ∙ sym (twice (λ h. in_group id w h u) passed (hole_last path c)))
  end_at-hole (suc place ∷ path) (leaf id w u) =
      ap (option_map (λ n. 1 + n)) (end_at-hole (place ∷ path) u)
      ∙ (twice passed (λ n. 1 + n) (hole_last (place ∷ path) u) ∙ sym (twice (under_leaf id w) passed (hole_last (place ∷ path) u)))
  end_at-hole (suc place ∷ path) (group id w c u) =
      ap (option_map (λ n. 1 + size c + n)) (end_at-hole (place ∷ path) u)
      ∙ (twice passed (λ n. 1 + size c + n) (hole_last (place ∷ path) u)
      ∙ sym (twice (under_group id w c) passed (hole_last (place ∷ path) u)))

  -- a path has an end exactly where something may be put last
  pub leads : (path : List ℕ) (b f : Forest L G) → is_some (end_at path f) ≡ is_some (put_last path b f)
  leads path b f =
      ap is_some (end_at-hole path f)
      ∙ (is_some_map passed (hole_last path f)
      ∙ (sym (is_some_map (λ h. plug h b) (hole_last path f)) ∙ sym (ap is_some (put_last-hole path b f))))

  -- the same, as far as a path was followed
  pub end_more : (path : List ℕ) (i : ℕ) (f rest c u : Forest L G) (id : ℕ) (w : G) (before k : ℕ) → i < length path
      → end_at path f ≡ option_map (λ n. before + n) (end_at (drop i path) rest)
      → from_place (get_or path i 0) rest ≡ group id w c u → k + (size c + size u) ≡ size rest
      → end_at path f ≡ option_map (λ n. before + k + n) (end_at (drop (i + 1) path) c)
  end_more path i f rest c u id w before k h so_far e s =
      so_far
      ∙ (ap (λ p. option_map (λ n. before + n) (end_at p rest)) (drop_more path i 0 h)
      ∙ (ap (option_map (λ n. before + n)) (end_at_group (get_or path i 0) (drop (i + 1) path) rest c u id w k e s)
      ∙ (twice (λ n. k + n) (λ n. before + n) (end_at (drop (i + 1) path) c)
      ∙ same_map _ (λ n. before + k + n) (end_at (drop (i + 1) path) c) (λ n. omega arith))))

  pub end_past : (path : List ℕ) (i : ℕ) (f rest : Forest L G) (before : ℕ) → i < length path
      → end_at path f ≡ option_map (λ n. before + n) (end_at (drop i path) rest) → from_place (get_or path i 0) rest ≡ none
      → end_at path f ≡ None
  end_past path i f rest before h so_far e =
      so_far
      ∙ ap (option_map (λ n. before + n)) (ap (λ p. end_at p rest) (drop_more path i 0 h)
      ∙ end_at_none (get_or path i 0) (drop (i + 1) path) rest e)

  pub end_in_leaf : (path : List ℕ) (i : ℕ) (f rest u : Forest L G) (id : ℕ) (w : L) (before : ℕ) → i < length path
      → end_at path f ≡ option_map (λ n. before + n) (end_at (drop i path) rest) → from_place (get_or path i 0) rest ≡ leaf id w u
      → end_at path f ≡ None
  end_in_leaf path i f rest u id w before h so_far e =
      so_far
      ∙ ap (option_map (λ n. before + n)) (ap (λ p. end_at p rest) (drop_more path i 0 h)
      ∙ end_at_leaf (get_or path i 0) (drop (i + 1) path) rest u id w e)

  pub passed_within_rest : (place : ℕ) (rest c u : Forest L G) (id : ℕ) (w : G) → from_place place rest ≡ group id w c u
      → (size rest - size (from_place place rest) + 1) + (size c + size u) ≡ size rest
  passed_within_rest place rest c u id w e = omega (arith, size-from_place place rest, ap size e)

  pub end_some : (path : List ℕ) (b f : Forest L G) → IsSome (put_last path b f) → IsSome (end_at path f)
  end_some path b f h = leads path b f ∙ h
