-- A spelling that stands in a file.
use Rattle.std.specs.Prelude.{◌≡◌, ℕ, ◌+◌, List, length}
use Rattle.spec_fields.specs.Field.{HasBytes}
use Rattle.spec_rle.specs.Codes.{Spells}
use Rattle.spec_rle.specs.Reading.{Part}

-- the bytes from the offset to the next are a spelling of the n bytes of the part
pub record IsSpelledAt (file : List ℕ) (at n : ℕ) (part : Part) : Type 0 where
  pub bytes : List ℕ
  pub spells : Spells bytes part.pixels
  pub full : length part.pixels ≡ n
  pub has : HasBytes file at bytes
  pub next : part.next ≡ at + length bytes
