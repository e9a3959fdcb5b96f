-- When a device may answer that it failed, and how often it was called: it has counts, which never fall.
use Rattle.std.specs.Prelude.{◌≡◌, ◌⊎◌, ℕ, ◌+◌, ◌-◌, ◌^◌, ◌<◌, Result, Ok, Err}
use Rattle.xl_ports.specs.declared.failed.FailedOrMemory.{FailedOrMemory}
use Rattle.xl_ports.specs.declared.failed.FailedOrMemory.TheVariants.{Memory, Failed}

-- where a count stops
abbrev pub last_count : ℕ
last_count = 2 ^ 64 - 1

-- the count rose, or stands at its last value
abbrev pub Rose : (old new : ℕ) → Type 0
Rose old new = (old < new) ⊎ ((old ≡ last_count) × (new ≡ old))

-- one call more was counted, or the count stands at its last value
abbrev pub Counted : (old new : ℕ) → Type 0
Counted old new = (new ≡ old + 1) ⊎ ((old ≡ last_count) × (new ≡ old))

-- a failure comes only where the count rose, and after any other answer it is as before
abbrev pub HasCause : {A E : Type 0} → (old new : ℕ) → Result A E → Type 0
HasCause old new (Ok x) = new ≡ old
HasCause old new (Err e) = Rose old new

-- the same where memory may run out, which is no fault of the device
abbrev pub HasCauseOrMemory : {A : Type 0} → (old new : ℕ) → Result A FailedOrMemory → Type 0
HasCauseOrMemory old new (Ok x) = new ≡ old
HasCauseOrMemory old new (Err Memory) = new ≡ old
HasCauseOrMemory old new (Err Failed) = Rose old new
