-- The codes of a tile are those of the planes of its bytes.
use Rattle.std.proofs.Common.{◌≡◌, ℕ, zero, suc, ◌+◌, ◌*◌, ◌<◌, List, [], ◌∷◌, length, map, get_or, refl, sym, ap, ◌∙◌}
use Rattle.std.proofs.Common.{subst, arith}
use Rattle.std.specs.List.{AllByRecursion}
use Rattle.std.proofs.lemmas.List.{ext_get_or}
use Rattle.spec_document.specs.declared.TileAt.{TileAt}
use Rattle.spec_document.specs.Rect.{count_from}
use Rattle.spec_document.specs.Plane.{Plane}
use Rattle.spec_hierarchy.specs.BytePlanes.{tile_planes}
use Rattle.spec_hierarchy.specs.Layout.{AreSpelled}
use Rattle.spec_hierarchy.specs.Tiles.{interleaved, tile_width, tile_height, tile_bytes, tile_plane}
use Rattle.spec_rle.specs.Codes.{AnySpelling}
use Rattle.xl_tile.specs.Coded.{IsCoded}
use Rattle.xl_tile.proofs.JoinedTiles.{byte_of_interleaved}
use Rattle.xl_tiles.proofs.Gathered.{gathered_tile}

length_counted : (g : ℕ → List ℕ) (first n : ℕ) → length (map g (count_from first n)) ≡ n
length_counted g first zero = refl
length_counted g first (suc n) = omega (arith, length_counted g (suc first) n)

counted : (g : ℕ → List ℕ) (first n i : ℕ) → i < n → get_or (map g (count_from first n)) i [] ≡ g (first + i)
counted g first zero i h = absurd (omega (arith, h))
counted g first (suc n) zero h = let start : first ≡ first + 0 = omega arith in ap g start
counted g first (suc n) (suc i) h =
    let start : suc first + i ≡ first + suc i = omega arith in counted g (suc first) n i (omega (arith, h)) ∙ ap g start

full_at : (n : ℕ) (planes : List (List ℕ)) (c : ℕ) → AllByRecursion (λ plane. length plane ≡ n) planes → c < length planes
    → length (get_or planes c []) ≡ n
full_at n [] c full h = absurd (omega (arith, h))
full_at n (plane ∷ planes) zero full h = full.0
full_at n (plane ∷ planes) (suc c) full h = full_at n planes c full.1 (omega (arith, h))

-- the planes that the bytes of a tile are interleaved of
planes_of_tile : (p : Plane) (t : TileAt) (n : ℕ) (planes : List (List ℕ)) → n ≡ tile_width p.width t * tile_height p.height t
    → length planes ≡ p.bpp → AllByRecursion (λ plane. length plane ≡ n) planes → interleaved n planes ≡ tile_bytes p t
    → planes ≡ map (tile_plane p t) (count_from 0 p.bpp)
planes_of_tile p t n planes size count full is =
    ext_get_or [] planes (map (tile_plane p t) (count_from 0 p.bpp)) (count ∙ sym (length_counted (tile_plane p t) 0 p.bpp))
    (λ c hc.
    let within : c < p.bpp = omega (arith, hc, count) in
    let here : c ≡ 0 + c = omega arith in
    gathered_tile p t c (get_or planes c []) (interleaved n planes) (full_at n planes c full hc ∙ size) within is
    (λ k hk. sym (byte_of_interleaved p.bpp n planes k c count (omega (arith, hk, size)) within))
    ∙ (ap (tile_plane p t) here ∙ sym (counted (tile_plane p t) 0 p.bpp c within)))

-- the codes of a tile of a plane
pub coded_tile : (p : Plane) (t : TileAt) (n : ℕ) (codes : List ℕ) → n ≡ tile_width p.width t * tile_height p.height t
    → IsCoded (tile_bytes p t) n p.bpp codes → AreSpelled AnySpelling codes (tile_planes 1 p t)
coded_tile p t n codes size coded =
    subst (AreSpelled AnySpelling codes) (planes_of_tile p t n coded.planes size coded.as_many coded.full (sym coded.tile_is))
    coded.spelled
