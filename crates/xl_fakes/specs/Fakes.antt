-- What a source and a sink in memory show.
use Rattle.std.specs.Prelude.{◌≡◌, ◌⊎◌, ℕ, ◌+◌, min, List, Bool, if◌then◌else◌, Contains}
use Rattle.xl_ports.specs.Faults.{last_count}

-- the calls of a fake: the numbers from 0 of those that fail, how many were made, and how many failed
pub record Calls : Type 0 where
  pub fails : List ℕ
  pub made : ℕ
  pub faults : ℕ

-- the next call is one of those that fail
abbrev pub NextFails : Calls → Type 0
NextFails calls = Contains calls.fails calls.made

-- one more, up to the last count
abbrev pub next_count : ℕ → ℕ
next_count n = min (n + 1) last_count

-- the calls with one more, which failed or not
abbrev pub with_call : (failed : Bool) → Calls → Calls
with_call failed calls = record {
  fails = calls.fails;
  made = next_count calls.made;
  faults = if failed then next_count calls.faults else calls.faults;
}

-- this call found no memory, or did not
abbrev pub CountsStarved : (old new : ℕ) → Type 0
CountsStarved old new = (new ≡ old) ⊎ (new ≡ next_count old)

-- no call was made
abbrev pub no_calls : (fails : List ℕ) → Calls
no_calls fails = record { fails = fails; made = 0; faults = 0 }

-- a source in memory, which gives at most so many bytes at a time
pub record SourceState : Type 0 where
  pub left : List ℕ
  pub step : ℕ
  pub calls : Calls

-- a sink in memory, which takes at most so many bytes at a time
pub record SinkState : Type 0 where
  pub held : List ℕ
  pub step : ℕ
  pub starved : ℕ
  pub calls : Calls
