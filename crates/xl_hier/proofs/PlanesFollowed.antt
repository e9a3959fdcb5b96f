-- A coder follows the planes of one tile after another.
use Rattle.std.proofs.Common.{◌≡◌, ℕ, ◌+◌, ◌*◌, ◌<◌, ◌≤◌, List, [], ◌∷◌, ◌++◌, length, take, get_or, sym, ap, ◌∙◌, subst, arith}
use Rattle.std.proofs.Common.{append-nil, take_all}
use Rattle.std.specs.Prelude.{flat_map}
use Rattle.std.proofs.lemmas.Grind.{flat_map-append}
use Rattle.std.proofs.lemmas.List.{take_more}
use Rattle.spec_document.specs.declared.TileAt.{TileAt}
use Rattle.spec_document.specs.Grid.{tiles_along, all_tiles}
use Rattle.spec_document.specs.Plane.{Plane}
use Rattle.spec_hierarchy.specs.BytePlanes.{tile_planes, byte_planes}
use Rattle.xl_rle.specs.Follows.{FollowsEach}
use Rattle.xl_rle.proofs.Following.{follows-append}
use Rattle.xl_hier.proofs.BandsRead.{length_of_tiles}

module _ {S : Type 0} (follows : S → List ℕ → S → Type 0) where
  -- the planes of the first k tiles
  abbrev pub FollowsTiles : (compression : ℕ) → Plane → (k : ℕ) → (before after : S) → Type 0
  FollowsTiles compression p k before after =
      FollowsEach follows before (flat_map (tile_planes compression p) (take k (all_tiles p.width p.height))) after

  -- one tile more
  pub tile_followed : (compression : ℕ) (p : Plane) (k : ℕ) (t : TileAt) (before between after : S)
      → k < tiles_along p.height * tiles_along p.width → get_or (all_tiles p.width p.height) k t ≡ t
      → FollowsTiles compression p k before between → FollowsEach follows between (tile_planes compression p t) after
      → FollowsTiles compression p (k + 1) before after
  tile_followed compression p k t before between after within here so_far more =
      let planes = tile_planes compression p in
      let all = all_tiles p.width p.height in
      let some : k < length all = omega (arith, length_of_tiles p.width p.height, within) in
      let tiles : take k all ++ t ∷ [] ≡ take (k + 1) all = ap (λ x. take k all ++ x ∷ []) (sym here)
      ∙ sym (take_more all k t some) in
      let joined : flat_map planes (take k all) ++ planes t ≡ flat_map planes (take (k + 1) all) =
      ap (λ xs. flat_map planes (take k all) ++ xs) (sym (append-nil (planes t)))
      ∙ (sym (flat_map-append planes (take k all) (t ∷ [])) ∙ ap (flat_map planes) tiles) in
      subst (λ xs. FollowsEach follows before xs after) joined
      (follows-append follows (flat_map planes (take k all)) (planes t) before between after so_far more)

  -- all tiles
  pub all_followed : (compression : ℕ) (p : Plane) (k : ℕ) (before after : S) → tiles_along p.height * tiles_along p.width ≤ k
      → FollowsTiles compression p k before after → FollowsEach follows before (byte_planes compression p) after
  all_followed compression p k before after whole so_far =
      let all = all_tiles p.width p.height in
      subst (λ ts. FollowsEach follows before (flat_map (tile_planes compression p) ts) after)
      (take_all k all (omega (arith, length_of_tiles p.width p.height, whole))) so_far
