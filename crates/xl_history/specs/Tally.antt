-- How many pictures were installed, and how many came too late.
use Rattle.std.specs.Prelude.{ℕ, ◌+◌, ◌-◌, ◌^◌, min, max}
use Rattle.spec_cache.specs.declared.Finished.{Finished}
use Rattle.spec_cache.specs.declared.Finished.TheVariants.{Installed, Late, Gone}
use Rattle.xl_history.specs.declared.tally.Tally.{Tally}

-- so many more, up to the greatest number
abbrev pub plus : ℕ → ℕ → ℕ
plus n more = max n (min (n + more) (2 ^ 32 - 1))

-- the tally with one answer more
abbrev pub counted : Tally → Finished → Tally
counted t Installed = record { installed = plus t.installed 1; late = t.late }
counted t (Late marked_at) = record { installed = t.installed; late = plus t.late 1 }
counted t Gone = t

-- the tally with so many installed, and so many late
abbrev pub with_more : Tally → (installed late : ℕ) → Tally
with_more t installed late = record { installed = plus t.installed installed; late = plus t.late late }
