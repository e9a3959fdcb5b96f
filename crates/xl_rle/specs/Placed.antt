-- What the bytes of one code leave of a plane.
use Rattle.std.specs.Prelude.{◌≡◌, ℕ, ◌+◌, ◌<◌, ◌≤◌, List, ◌++◌, length, take, Result, Ok, Err}
use Rattle.spec_fields.specs.declared.ReadRefused.{ReadRefused}
use Rattle.spec_fields.specs.Reading.{Read}
use Rattle.spec_rle.specs.Reading.{Part}
use Rattle.xl_rle.specs.declared.decode.Placed.{Placed}

-- the part of the code stands behind what was filled, and a code was still allowed
pub record IsPutBehind (placed : Placed) (filled codes : ℕ) (old new : List ℕ) (read : Read Part) : Type 0 where
  pub part : Part
  pub is : read ≡ Ok part
  pub allowed : 0 < codes
  pub front : take placed.filled new ≡ take filled old ++ part.pixels
  pub longer : placed.filled ≡ filled + length part.pixels
  pub inside : placed.filled ≤ length old
  pub next : placed.at ≡ part.next

-- the same, or the fault of the code
abbrev pub PutsCode : Result Placed ReadRefused → (filled codes : ℕ) → (old new : List ℕ) → Read Part → Type 0
PutsCode (Ok placed) filled codes old new read = IsPutBehind placed filled codes old new read
PutsCode (Err e) filled codes old new read = read ≡ Err e
