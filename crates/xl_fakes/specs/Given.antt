-- What comes of a call that reads the bytes of the selected name.
use Rattle.std.specs.Prelude.{Result, Ok, Err, IsErr}

-- there was memory for the call, and it gave nothing
abbrev pub IsRefused : {A E F : Type 0} → Result (Result A E) F → Type 0
IsRefused (Ok given) = IsErr given
IsRefused (Err e) = ⊥
