-- What a source has left.
use Rattle.std.specs.Prelude.{◌≡◌, ℕ, List, [], ◌++◌, Option, option_map, IfSome}

-- these bytes, and then what is left, where that is told
abbrev pub led_by : (bytes : List ℕ) → (left : Option (List ℕ)) → Option (List ℕ)
led_by bytes left = option_map (λ more. bytes ++ more) left

-- nothing is left, where that is told
abbrev pub IsEnded : (left : Option (List ℕ)) → Type 0
IsEnded left = IfSome left (λ bytes. bytes ≡ [])
