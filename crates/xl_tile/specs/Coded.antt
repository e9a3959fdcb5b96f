-- The codes of a tile: a spelling of each of its planes, one after another.
use Rattle.std.specs.Prelude.{◌≡◌, ℕ, List, length}
use Rattle.std.specs.List.{AllByRecursion}
use Rattle.spec_hierarchy.specs.Layout.{AreSpelled}
use Rattle.spec_hierarchy.specs.Tiles.{interleaved}
use Rattle.spec_rle.specs.Codes.{AnySpelling}

-- the tile has n pixels of so many bytes, and the codes spell the planes that they are interleaved of
pub record IsCoded (tile : List ℕ) (n bpp : ℕ) (codes : List ℕ) : Type 0 where
  pub planes : List (List ℕ)
  pub as_many : length planes ≡ bpp
  pub full : AllByRecursion (λ plane. length plane ≡ n) planes
  pub tile_is : tile ≡ interleaved n planes
  pub spelled : AreSpelled AnySpelling codes planes
