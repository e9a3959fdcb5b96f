-- How the writing of a text ends.
use Rattle.std.specs.Prelude.{◌≡◌, ℕ, List, Option, Result, Ok, Err}
use Rattle.xl_ports.specs.Sink.{WritesAll, WritesPart}
use Rattle.xl_report.specs.declared.fault.PamFaultOrMemory.{PamFaultOrMemory}
use Rattle.xl_report.specs.declared.fault.PamFaultOrMemory.TheVariants.{Memory, Refused}

module _ {K : Type 0} (held : K → Option (List ℕ)) (faults : K → ℕ) where
  -- all of it, or a fault of the sink and the first of it, or nothing where memory ran out
  abbrev pub WritesText : (old new : K) → (text : List ℕ) → Result (Unit {0}) PamFaultOrMemory → Type 0
  WritesText old new text (Ok done) = WritesAll held faults old new text
  WritesText old new text (Err (Refused fault)) = WritesPart held faults old new text
  WritesText old new text (Err Memory) = (held new ≡ held old) × (faults new ≡ faults old)
