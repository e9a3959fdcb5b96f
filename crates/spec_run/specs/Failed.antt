-- How many saves of a run may have failed.
use Rattle.std.specs.Prelude.{◌≡◌, ◌<◌, ℕ, Bool, true, false}

abbrev pub NoneFailed : (faults : ℕ) → Type 0
NoneFailed faults = faults ≡ 0

abbrev pub SomeFailed : (faults : ℕ) → Type 0
SomeFailed faults = 0 < faults

abbrev pub AnyFailed : (faults : ℕ) → Type 0
AnyFailed faults = Unit {0}

-- as a flag tells it
abbrev pub WhetherFailed : Bool → (faults : ℕ) → Type 0
WhetherFailed true faults = SomeFailed faults
WhetherFailed false faults = NoneFailed faults
