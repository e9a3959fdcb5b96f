-- How a command ends that writes its output.
use Rattle.std.specs.Prelude.{ℕ}
use Rattle.spec_run.specs.Failed.{NoneFailed, SomeFailed, AnyFailed}

-- well; with saves that failed; with a rejection of what is audited; or while the output was written, which came to one of these
pub data Ending : Type 0 where
  well : Ending
  unsaved : Ending
  rejected : Ending
  in_part : Ending

-- how many saves of a run may have failed then
abbrev pub HaveFailed : Ending → (faults : ℕ) → Type 0
HaveFailed well faults = NoneFailed faults
HaveFailed unsaved faults = SomeFailed faults
HaveFailed rejected faults = ⊥
HaveFailed in_part faults = AnyFailed faults
