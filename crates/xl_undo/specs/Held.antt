-- A count as 32 bits hold it.
use Rattle.std.specs.Prelude.{ℕ, ◌-◌, ◌^◌, min}

-- the greatest number stands for all above it
abbrev pub held : ℕ → ℕ
held count = min (2 ^ 32 - 1) count
