-- The codes of a tile in runs.
use Rattle.std.proofs.Common.{◌≡◌, ℕ, ◌<◌, ◌≤◌, List, [], ◌∷◌, length, sym, ap}
use Rattle.std.proofs.Common.{subst, arith}
use Rattle.std.specs.Prelude.{Ok}
use Rattle.spec_document.specs.Limits.{AreBytes}
use Rattle.spec_fields.specs.Reading.{◌>>=◌}
use Rattle.spec_hierarchy.specs.Holds.{HasSpelled}
use Rattle.spec_hierarchy.specs.Reading.{tile_at}
use Rattle.spec_hierarchy.specs.Tiles.{interleaved}
use Rattle.spec_hierarchy.proofs.PlanesBack.{tile_has}
use Rattle.xl_tile.specs.Codes.{AreCodes}
use Rattle.xl_tile.specs.Coded.{IsCoded}
use Rattle.xl_tile.specs.Packed.{packed, IsPacked}
use Rattle.xl_tile.proofs.PackedTiles.{in_runs, unpacked}

-- the codes of a tile that is read in runs
runs_coded : (file : List ℕ) (at n bpp : ℕ) (codes : List ℕ) → IsPacked file at n bpp 1 → AreCodes file at n bpp codes
    → IsCoded (packed file at n bpp 1) n bpp codes
unfolding tile_at
runs_coded file at n bpp codes h are =
    let read : tile_at file at n bpp 1 ≡ Ok (interleaved n are.list) = ap (λ r. r >>= (λ planes. Ok (interleaved n planes))) are.reads in
    record {
      planes = are.list;
      as_many = are.as_many;
      full = are.full;
      tile_is = sym (unpacked file at n bpp 1 (interleaved n are.list) h read);
      spelled = are.spelled;
    }

-- the same, by the numbers that are asked for
pub codes_are : (file : List ℕ) (at pixels bytes compression n bpp : ℕ) (codes : List ℕ) → IsPacked file at pixels bytes compression
    → 0 < compression → pixels ≡ n → bytes ≡ bpp → AreCodes file at n bpp codes
    → IsCoded (packed file at pixels bytes compression) n bpp codes
codes_are file at pixels bytes compression n bpp codes h some size count are =
    let one : 1 ≡ compression = omega (arith, some, h.known) in
    let same : packed file at n bpp 1 ≡ packed file at pixels bytes compression =
    λ i. packed file at (sym size i) (sym count i) (one i) in
    let here : IsPacked file at n bpp 1 =
    subst (λ k. IsPacked file at n k 1) count (subst (λ k. IsPacked file at k bytes 1) size (in_runs h some)) in
    subst (λ tile. IsCoded tile n bpp codes) same (runs_coded file at n bpp codes here are)

stand_inside : (file : List ℕ) (at n : ℕ) (planes : List (List ℕ)) → HasSpelled file at n planes → 0 < length planes
    → at ≤ length file
stand_inside file at n [] stand some = absurd (omega (arith, some))
stand_inside file at n (plane ∷ planes) (bytes, spells, size, has, rest) some = omega (arith, has.fits)

-- a tile in runs begins in the file
pub begins_inside : (file : List ℕ) (at n bpp compression : ℕ) → AreBytes file → IsPacked file at n bpp compression
    → 0 < compression → at ≤ length file
begins_inside file at n bpp compression all h some =
    let runs = in_runs h some in
    let has = tile_has file at n bpp 1 (packed file at n bpp 1) all (omega (arith, h.some)) runs.reads in
    stand_inside file at n has.stands.planes has.stands.stand (omega (arith, has.stands.as_many, h.some_bytes))
