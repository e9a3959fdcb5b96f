-- What a sink holds, and a writing of several pieces one after another.
use Rattle.std.specs.Prelude.{◌≡◌, ℕ, ◌≤◌, List, ◌++◌, length, take, Option, option_map, Result, Ok, Err}
use Rattle.xl_ports.specs.Faults.{Rose}

-- what is held with these bytes behind it, where it is told
abbrev pub appended : (held : Option (List ℕ)) → (bytes : List ℕ) → Option (List ℕ)
appended held bytes = option_map (λ before. before ++ bytes) held

module _ {K : Type 0} (held : K → Option (List ℕ)) (faults : K → ℕ) where
  -- all the bytes were written, and no fault came
  pub record WritesAll (old new : K) (bytes : List ℕ) : Type 0 where
    pub holds : held new ≡ appended (held old) bytes
    pub no_fault : faults new ≡ faults old

  -- a fault came, and only the first so many of the bytes were written
  pub record WritesPart (old new : K) (bytes : List ℕ) : Type 0 where
    pub count : ℕ
    pub within : count ≤ length bytes
    pub holds : held new ≡ appended (held old) (take count bytes)
    pub fault : Rose (faults old) (faults new)

  -- all the bytes, or a fault and the first of them
  abbrev pub Writes : {A E : Type 0} → (old new : K) → (bytes : List ℕ) → Result A E → Type 0
  Writes old new bytes (Ok x) = WritesAll old new bytes
  Writes old new bytes (Err e) = WritesPart old new bytes
