-- What decoding gives, against what reading gives.
use Rattle.std.specs.Prelude.{◌≡◌, ℕ, List, Result, Ok, Err}
use Rattle.spec_fields.specs.declared.ReadRefused.{ReadRefused}
use Rattle.spec_fields.specs.Reading.{Read}
use Rattle.spec_rle.specs.Reading.{Part}

-- the plane and the offset after its last code, or the first fault
abbrev pub PlaneOf : Result ℕ ReadRefused → (out : List ℕ) → Read Part → Type 0
PlaneOf (Ok next) out read = read ≡ Ok (record { pixels = out; next = next })
PlaneOf (Err e) out read = read ≡ Err e
