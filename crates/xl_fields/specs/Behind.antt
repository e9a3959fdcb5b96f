-- What stood in a buffer, and what was appended behind it.
use Rattle.std.specs.Prelude.{◌≡◌, ℕ, List, length, take}

-- what stood there stands in front still
abbrev pub BeginsWith : (whole front : List ℕ) → Type 0
BeginsWith whole front = take (length front) whole ≡ front
