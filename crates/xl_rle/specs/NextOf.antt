-- What walking over a plane gives, against what reading gives.
use Rattle.std.specs.Prelude.{ℕ, Ok, Err}
use Rattle.spec_fields.specs.Reading.{Read}
use Rattle.spec_rle.specs.Reading.{Part}

-- the offset after the last code alone, or the first fault
abbrev pub next_of : Read Part → Read ℕ
next_of (Ok part) = Ok part.next
next_of (Err e) = Err e
