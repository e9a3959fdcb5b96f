-- Planes that are read from a file, and their codes as they stand in it.
use Rattle.std.specs.Prelude.{◌≡◌, ℕ, ◌-◌, ◌≤◌, List, length, take, drop, Ok}
use Rattle.std.specs.List.{AllByRecursion}
use Rattle.spec_hierarchy.specs.Layout.{AreSpelled}
use Rattle.spec_hierarchy.specs.Reading.{planes_at}
use Rattle.spec_rle.specs.Codes.{AnySpelling}

-- the codes are those of so many planes of n bytes that are read from an offset
pub record AreCodes (file : List ℕ) (at n planes : ℕ) (codes : List ℕ) : Type 0 where
  pub list : List (List ℕ)
  pub reads : planes_at planes file at n ≡ Ok list
  pub as_many : length list ≡ planes
  pub full : AllByRecursion (λ plane. length plane ≡ n) list
  pub spelled : AreSpelled AnySpelling codes list

-- they are the bytes from the offset to an end
pub record StandTo (file : List ℕ) (at n planes end : ℕ) : Type 0 where
  pub behind : at ≤ end
  pub inside : end ≤ length file
  pub codes : AreCodes file at n planes (take (end - at) (drop at file))
