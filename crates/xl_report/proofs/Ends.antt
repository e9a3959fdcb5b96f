-- How a writing ends, by its answer.
use Rattle.std.proofs.Common.{◌≡◌, ℕ, List, true, false}
use Rattle.std.specs.Prelude.{Option, Result, Ok, Err, IsErr, IsErrAnd}
use Rattle.xl_ports.specs.Sink.{Writes, WritesPart}
use Rattle.xl_report.specs.declared.fault.PamFault.{PamFault}
use Rattle.xl_report.specs.declared.fault.PamFaultOrMemory.{PamFaultOrMemory}
use Rattle.xl_report.specs.declared.fault.PamFaultOrMemory.TheVariants.{Memory, Refused}
use Rattle.xl_report.specs.Written.{WritesText}

module _ {K : Type 0} (held : K → Option (List ℕ)) (faults : K → ℕ) where
  -- an error is a part
  pub fault_writes : {A E : Type 0} (old new : K) (bytes : List ℕ) (r : Result A E) → IsErr r → WritesPart held faults old new bytes
      → Writes held faults old new bytes r
  fault_writes old new bytes (Ok x) bad part = let e : false ≡ true = bad in absurd (cc)
  fault_writes old new bytes (Err e) bad part = part

  -- a fault of the sink is a part of the text
  pub fault_text : (old new : K) (text : List ℕ) (r : Result (Unit {0}) PamFaultOrMemory) (fault : PamFault)
      → IsErrAnd r (λ e. e ≡ Refused fault)
      → WritesPart held faults old new text → WritesText held faults old new text r
  fault_text old new text (Ok x) fault is part = absurd is
  fault_text old new text (Err Memory) fault is part = absurd (cc)
  fault_text old new text (Err (Refused f)) fault is part = part
