-- Planes that are spelled one after another.
use Rattle.std.proofs.Common.{◌≡◌, ℕ, zero, suc, ◌+◌, ◌≤◌, List, [], ◌∷◌, ◌++◌, length, map, refl, sym, ap, ◌∙◌, subst}
use Rattle.std.proofs.Common.{arith, append_assoc, append-nil}
use Rattle.spec_document.specs.declared.TileAt.{TileAt}
use Rattle.spec_document.specs.Rect.{count_from}
use Rattle.spec_document.specs.Plane.{Plane}
use Rattle.spec_rle.specs.declared.TheConstants.{MAX_EXCESS}
use Rattle.spec_rle.specs.Codes.{Spells}
use Rattle.spec_hierarchy.specs.Tiles.{tile_plane}
use Rattle.xl_rle.specs.Appends.{Appends}
use Rattle.xl_rle.specs.Follows.{FollowsEach}
use Rattle.xl_rle.proofs.Following.{follows_more}
use Rattle.spec_hierarchy.specs.Layout.{AreSpelled}

-- the first c planes are spelled
pub record Spelling (fits : List ℕ → List ℕ → Type 0) (p : Plane) (t : TileAt) (c : ℕ) (old new : List ℕ) : Type 0 where
  pub bytes : List ℕ
  pub spelled : AreSpelled fits bytes (map (tile_plane p t) (count_from 0 c))
  pub appended : new ≡ old ++ bytes

pub none : (fits : List ℕ → List ℕ → Type 0) (p : Plane) (t : TileAt) (old : List ℕ) → Spelling fits p t 0 old old
none fits p t old = record { bytes = []; spelled = refl; appended = sym (append-nil old) }

spelled_more : (fits : List ℕ → List ℕ → Type 0) (planes : List (List ℕ)) (bytes spelled plane : List ℕ)
    → AreSpelled fits bytes planes
    → Spells spelled plane → length spelled ≤ length plane + MAX_EXCESS → fits plane spelled
    → AreSpelled fits (bytes ++ spelled) (planes ++ plane ∷ [])
spelled_more fits [] bytes spelled plane none spells short fitting =
    (spelled, [], spells, short, fitting, ap (λ xs. xs ++ spelled) none ∙ sym (append-nil spelled), refl)
spelled_more fits (first ∷ planes) bytes spelled plane (front, rest, s, n, f, is, are) spells short fitting = (
  front,
  rest ++ spelled,
  s,
  n,
  f,
  ap (λ xs. xs ++ spelled) is
      ∙ append_assoc front rest spelled,
  spelled_more fits planes rest spelled plane are spells short fitting,
)

last_of : (g : ℕ → List ℕ) (first n : ℕ) → map g (count_from first (suc n)) ≡ map g (count_from first n) ++ g (first + n) ∷ []
last_of g first zero = let start : first ≡ first + 0 = omega arith in ap (λ k. g k ∷ []) start
last_of g first (suc n) =
    let start : suc first + n ≡ first + suc n = omega arith in
    ap (λ xs. g first ∷ xs) (last_of g (suc first) n) ∙ ap (λ k. g first ∷ (map g (count_from (suc first) n) ++ g k ∷ [])) start

-- one plane more of a tile
planes_more : (p : Plane) (t : TileAt) (c : ℕ) (plane : List ℕ) → plane ≡ tile_plane p t c
    → map (tile_plane p t) (count_from 0 c) ++ plane ∷ [] ≡ map (tile_plane p t) (count_from 0 (c + 1))
planes_more p t c plane is =
    let step : suc c ≡ c + 1 = omega arith in
    let here : 0 + c ≡ c = omega arith in
    ap (λ xs. map (tile_plane p t) (count_from 0 c) ++ xs ∷ []) (is ∙ ap (tile_plane p t) (sym here))
    ∙ (sym (last_of (tile_plane p t) 0 c) ∙ ap (λ k. map (tile_plane p t) (count_from 0 k)) step)

pub more : (fits : List ℕ → List ℕ → Type 0) (p : Plane) (t : TileAt) (c : ℕ) (first old plane new : List ℕ)
    → Spelling fits p t c first old
    → plane ≡ tile_plane p t c → Appends fits plane old new → Spelling fits p t (c + 1) first new
more fits p t c first old plane new so_far is made = record {
  bytes = so_far.bytes ++ made.spelled;
  spelled = subst (AreSpelled fits (so_far.bytes ++ made.spelled)) (planes_more p t c plane is)
      (spelled_more fits (map (tile_plane p t) (count_from 0 c)) so_far.bytes made.spelled plane so_far.spelled made.spells
      made.short made.fitting);
  appended = made.appended ∙ (ap (λ xs. xs ++ made.spelled) so_far.appended ∙ append_assoc first so_far.bytes made.spelled);
}

-- the coder followed one plane more
pub followed_more : {S : Type 0} (follows : S → List ℕ → S → Type 0) (p : Plane) (t : TileAt) (c : ℕ) (first before after : S)
    → (plane : List ℕ) → plane ≡ tile_plane p t c
    → FollowsEach follows first (map (tile_plane p t) (count_from 0 c)) before → follows before plane after
    → FollowsEach follows first (map (tile_plane p t) (count_from 0 (c + 1))) after
followed_more follows p t c first before after plane is so_far step =
    subst (λ planes. FollowsEach follows first planes after) (planes_more p t c plane is)
    (follows_more follows (map (tile_plane p t) (count_from 0 c)) plane first before after so_far step)
