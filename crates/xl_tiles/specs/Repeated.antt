-- A piece that is repeated.
use Rattle.std.specs.Prelude.{◌≡◌, ℕ, zero, suc, ◌+◌, ◌*◌, ◌<◌, List, [], ◌++◌, length, slice_index}

-- the piece stands so many times
pub record IsRepeated (piece : List ℕ) (n : ℕ) (all : List ℕ) : Type 0 where
  pub size : length all ≡ n * length piece
  pub each : (k c : ℕ) → k < n → c < length piece → slice_index all (k * length piece + c) ≡ slice_index piece c

-- the piece so many times, one after another
unfoldable pub repeated : (n : ℕ) → (piece : List ℕ) → List ℕ
repeated zero piece = []
repeated (suc n) piece = piece ++ repeated n piece
