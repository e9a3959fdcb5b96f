-- Stops before a command came to the shelf.
use Rattle.std.proofs.Common.{◌≡◌, ℕ, false, true, List, Option, Some, Result, Ok, Err, sym, ◌∙◌, subst, inl, inr}
use Rattle.spec_command.specs.Arguments.{Asked, render, edit, info, make, pack, flatten, view, audit}
use Rattle.xl_ports.specs.Shelf.{Content}
use Rattle.xl_outcome.specs.AtSource.{IsOfSource, IfOfSource, StopsBeforeShelf}
use Rattle.xl_outcome.specs.Command.{ReadsSource}
use Rattle.xl_outcome.specs.Outcome.{Given, WritesStop}
use Rattle.xl_outcome.specs.Parts.{StopsFor}
use Rattle.xl_script.specs.declared.bad_line.BadLine as refused_line
use Rattle.xl_outcome.specs.declared.stopped.Stopped.{Stopped}
use Rattle.xl_outcome.specs.declared.stopped.Stopped.TheVariants.{SourceFault, BadHead, BadLine, ShelfFault, Refused}
use Rattle.xl_outcome.specs.declared.stopped.Stopped.TheVariants.{NotFlattened, SaveFault, Rejected, SinkFault, Memory}
use Rattle.xl_outcome.proofs.StopLines.{reads_source}

-- what does not stop at the source owes nothing there
pub past_source : {A : Type 0} (Then : Type 0) (result : Result A Stopped) → IfOfSource result ⊥ → IfOfSource result Then
past_source Then (Ok x) never = tt
past_source Then (Err stopped) never = λ stops. absurd (never stops)

-- no stop is one before the shelf whose status is not
later : {Then : Type 0} {status last other : ℕ} → status ≡ last → StopsBeforeShelf last → status ≡ other
    → (StopsBeforeShelf other → false ≡ true)
    → Then
later same before is late = let bad : false ≡ true = late (subst StopsBeforeShelf (sym same ∙ is) before) in cc

module _ (given : Given) (content : List ℕ → Option Content) where
  -- only a command that reads the source stops at it
  reads_head : (command : Asked) → StopsFor given content command (Err BadHead) → ReadsSource (Some command)
  reads_head (render name) stops = absurd stops
  reads_head (info name with_all) stops = absurd stops
  reads_head (make name seed) stops = absurd stops
  reads_head (pack name with_plans) stops = absurd stops
  reads_head (flatten name) stops = absurd stops
  reads_head (edit name workers) stops = tt
  reads_head (view name cols rows) stops = tt
  reads_head (audit name) stops = tt

  reads_line : (command : Asked) (bad : refused_line.BadLine) → StopsFor given content command (Err (BadLine bad))
      → ReadsSource (Some command)
  reads_line (render name) bad stops = absurd stops
  reads_line (info name with_all) bad stops = absurd stops
  reads_line (make name seed) bad stops = absurd stops
  reads_line (pack name with_plans) bad stops = absurd stops
  reads_line (flatten name) bad stops = absurd stops
  reads_line (edit name workers) bad stops = tt
  reads_line (view name cols rows) bad stops = tt
  reads_line (audit name) bad stops = tt

  -- what holds where a command stopped at the source, by the status
  pub at_source : {K : Type 0} (held : K → Option (List ℕ)) (faults : K → ℕ) (Then : Type 0) (command : Asked) (stopped : Stopped)
      (status last : ℕ) (mid new : K) → status ≡ last → StopsBeforeShelf last
      → StopsFor given content command (Err stopped) → WritesStop held faults mid new stopped status
      → (ReadsSource (Some command) → IsOfSource stopped → Then) → Then
  at_source held faults Then command SourceFault status last mid new same before stops told kept =
      kept (reads_source given content command stops) tt
  at_source held faults Then command BadHead status last mid new same before stops told kept =
      kept (reads_head command stops) tt
  at_source held faults Then command (BadLine bad) status last mid new same before stops told kept =
      kept (reads_line command bad stops) tt
  at_source held faults Then command ShelfFault status last mid new same before stops told kept =
      later same before told.0 (λ bad. bad)
  at_source held faults Then command (Refused why) status last mid new same before stops (inl told) kept =
      later same before told.0 (λ bad. bad)
  at_source held faults Then command (Refused why) status last mid new same before stops (inr told) kept =
      later same before told.0 (λ bad. bad)
  at_source held faults Then command (NotFlattened why) status last mid new same before stops (inl told) kept =
      later same before told.0 (λ bad. bad)
  at_source held faults Then command (NotFlattened why) status last mid new same before stops (inr told) kept =
      later same before told.0 (λ bad. bad)
  at_source held faults Then command SaveFault status last mid new same before stops told kept =
      later same before told.0 (λ bad. bad)
  at_source held faults Then command (Rejected why) status last mid new same before stops told kept =
      later same before told.0 (λ bad. bad)
  at_source held faults Then command SinkFault status last mid new same before stops told kept =
      later same before told.0 (λ bad. bad)
  at_source held faults Then command Memory status last mid new same before stops told kept =
      later same before told.0 (λ bad. bad)
