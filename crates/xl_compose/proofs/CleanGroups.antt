-- The pictures of the groups of a document, for the nodes of a stack.
use Rattle.std.proofs.Common.{◌≡◌, ℕ, ◌≤◌, Bool, true, false, cond, List, [], ◌∷◌, nat_eq, refl, sym, ◌∙◌, ap, subst}
use Rattle.std.proofs.Common.{arith, inl, inr}
use Rattle.std.specs.Prelude.{Option, Some, None, IsSome, ◌==◌}
use Rattle.std.specs.List.{AllByRecursion, IsDistinct}
use Rattle.std.proofs.lemmas.Bool.{ne_eqb}
use Rattle.spec_document.specs.Forest.{none, leaf, group, ids, a_group, find, children_of, stack_at}
use Rattle.spec_document.specs.Holes.{Hole, here, under_leaf, under_group, in_group, plug}
use Rattle.spec_document.proofs.Holes.{into, plug-into}
use Rattle.spec_document.proofs.Standing.{Standing, nowhere, at_leaf, at_group, standing, find-at_leaf, find-at_group}
use Rattle.spec_document.proofs.Distinct.{Member, member-plug}
use Rattle.spec_document.proofs.Outside.{fresh_from}
use Rattle.spec_document.specs.declared.TileAt.{TileAt}
use Rattle.spec_document.specs.Document.{Document, Nodes, Layer, Group}
use Rattle.spec_document.specs.Picture.{picture, pixel_of, project}
use Rattle.xl_compose.specs.Added.{AreRight, IsPicture}
use Rattle.xl_compose.specs.Job.{AreClean}
use Rattle.xl_compose.specs.JobScratch.{tile_band}
use Rattle.xl_compose.proofs.PictureBytes.{rect_length, rect_pixel}

-- the bytes of a stack's picture are a picture of its nodes
pub picture_right : (d : Document) (stack : ℕ) (at : TileAt) (s : Nodes) (bytes : List ℕ) → stack_at stack d.nodes ≡ Some s
    → bytes ≡ project d stack at
    → IsPicture d.colours (tile_band d at) s bytes
picture_right d stack at s bytes is bytes_are =
    let b = tile_band d at in
    let P : List ℕ → Type 0 = IsPicture d.colours b s in
    subst P (sym bytes_are) record {
      size = rect_length (picture d stack) b.x b.y b.w b.h;
      each = λ v k hv hk. rect_pixel (picture d stack) b.x b.y b.w b.h v k hv hk ∙ ap (pixel_of d.colours _ _) is;
    }

all_member : (P : ℕ → Type 0) (id : ℕ) (xs : List ℕ) → AllByRecursion P xs → Member id xs → P id
all_member P id [] h m = absurd m
all_member P id (x ∷ xs) h (inl e) = subst P e h.0
all_member P id (x ∷ xs) h (inr m) = all_member P id xs h.1 m

stack_is : (f : Nodes) (id : ℕ) (g : Group) (c : Nodes) → 1 ≤ id → find id f ≡ a_group g c → stack_at id f ≡ Some c
stack_is f id g c some is =
    ap (λ b. cond b (Some f) (children_of (find id f))) (ne_eqb id 0 (λ e. omega (arith, e, some))) ∙ ap children_of is

module _ (clean : ℕ → TileAt → Option (List ℕ)) (d : Document) (at : TileAt) (right : AreClean clean d at)
    (own : IsDistinct nat_eq (ids d.nodes)) (some : AllByRecursion (λ id. 1 ≤ id) (ids d.nodes)) where
  group_right : (h : Hole Layer Group) (id : ℕ) (g : Group) (c u : Nodes) → d.nodes ≡ plug h (group id g c u) → (bytes : List ℕ)
      → clean id at ≡ Some bytes
      → IsPicture d.colours (tile_band d at) c bytes
  group_right h id g c u is bytes given =
      let P : Nodes → Type 0 = λ f. IsDistinct nat_eq (ids f) in
      let Q : Nodes → Type 0 = λ f. AllByRecursion (λ i. 1 ≤ i) (ids f) in
      let positive : 1 ≤ id = all_member (λ i. 1 ≤ i) id (ids (plug h (group id g c u))) (subst Q is some)
      (member-plug id h (group id g c u) (inl refl)) in
      let found : find id d.nodes ≡ a_group g c = ap (find id) is
      ∙ find-at_group id h g c u (fresh_from id h (group id g c u) (subst P is own) (inl refl)) in
      let stack : stack_at id d.nodes ≡ Some c = stack_is d.nodes id g c positive found in
      let R : Option Nodes → Type 0 = IsSome in
      picture_right d id at c bytes stack (right id bytes positive (subst R (sym stack) refl) given)

  right_in : (h : Hole Layer Group) (f : Nodes) → d.nodes ≡ plug h f → AreRight (λ id. clean id at) d.colours (tile_band d at) f
  right_in h none is = tt
  right_in h (leaf id l u) is = right_in (into h (under_leaf id l here)) u (is ∙ sym (plug-into h (under_leaf id l here) u))
  right_in h (group id g c u) is = (
    group_right h id g c u is,
    (
      right_in (into h (in_group id g here u)) c (is ∙ sym (plug-into h (in_group id g here u) c)),
      right_in (into h (under_group id g c here)) u (is ∙ sym (plug-into h (under_group id g c here) u)),
    ),
  )

  by_found : (stack : ℕ) (s : Nodes) → Standing stack d.nodes → children_of (find stack d.nodes) ≡ Some s
      → AreRight (λ id. clean id at) d.colours (tile_band d at) s
  by_found stack s (nowhere n) is = absurd (no_some (sym (ap children_of n) ∙ is)) where
    no_some : {A : Type 0} {x : A} → None ≡ Some x → ⊥
    no_some e = cc
  by_found stack s (at_leaf h w u is_plug fresh) is =
      absurd (no_some (sym (ap children_of (ap (find stack) is_plug ∙ find-at_leaf stack h w u fresh)) ∙ is)) where
        no_some : {A : Type 0} {x : A} → None ≡ Some x → ⊥
        no_some e = cc
  by_found stack s (at_group h w c u is_plug fresh) is =
      let same : Some c ≡ Some s = sym (ap children_of (ap (find stack) is_plug ∙ find-at_group stack h w c u fresh)) ∙ is in
      let P : Nodes → Type 0 = AreRight (λ id. clean id at) d.colours (tile_band d at) in
      subst P (some_same same) (right_in (into h (in_group stack w here u)) c (is_plug
      ∙ sym (plug-into h (in_group stack w here u) c))) where
        some_same : {x y : Nodes} → Some x ≡ Some y → x ≡ y
        some_same e = cc

  by_test : (stack : ℕ) (s : Nodes) (b : Bool) → cond b (Some d.nodes) (children_of (find stack d.nodes)) ≡ Some s
      → AreRight (λ id. clean id at) d.colours (tile_band d at) s
  by_test stack s true is = let P : Nodes → Type 0 = AreRight (λ id. clean id at) d.colours (tile_band d at) in
      subst P (some_same is) (right_in here d.nodes refl) where
        some_same : {x y : Nodes} → Some x ≡ Some y → x ≡ y
        some_same e = cc
  by_test stack s false is = by_found stack s (standing stack d.nodes) is

  -- below a stack
  pub right_below : (stack : ℕ) (s : Nodes) → stack_at stack d.nodes ≡ Some s
      → AreRight (λ id. clean id at) d.colours (tile_band d at) s
  right_below stack s is = by_test stack s (stack == 0) is
