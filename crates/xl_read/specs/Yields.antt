-- What a reader in code answers and leaves, against what reading gives.
use Rattle.std.specs.Prelude.{◌≡◌, Result, Ok, Err}
use Rattle.spec_fields.specs.Reading.{Read}
use Rattle.xl_fields.specs.declared.refusal.ReadRefusedOrMemory.{ReadRefusedOrMemory}
use Rattle.xl_fields.specs.declared.refusal.ReadRefusedOrMemory.TheVariants.{Memory, Refused}

-- what was read is what the answer makes of it, or it is the first fault, or memory ran out
abbrev pub Yields : {A B : Type 0} → Result A ReadRefusedOrMemory → (A → B) → Read B → Type 0
Yields (Ok x) made read = read ≡ Ok (made x)
Yields (Err Memory) made read = Unit {0}
Yields (Err (Refused e)) made read = read ≡ Err e

-- a fact where a file is refused
abbrev pub OnRefused : {A : Type 0} → Result A ReadRefusedOrMemory → Type 0 → Type 0
OnRefused (Ok x) fact = Unit {0}
OnRefused (Err Memory) fact = Unit {0}
OnRefused (Err (Refused e)) fact = fact
