-- Bytes of one value.
use Rattle.std.specs.Prelude.{◌≡◌, ℕ, ◌<◌, List, length, slice_index}

-- so many bytes of one value
pub record AreFlat (n value : ℕ) (bytes : List ℕ) : Type 0 where
  pub size : length bytes ≡ n
  pub each : (i : ℕ) → i < n → slice_index bytes i ≡ value
