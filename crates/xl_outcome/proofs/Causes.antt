-- Why a fault of the shelf stopped a command that reads its file.
use Rattle.spec_command.specs.Arguments.{Asked}
use Rattle.std.specs.Prelude.{Result, Ok, Err}
use Rattle.xl_ports.specs.Faults.{Rose}
use Rattle.xl_ports.specs.State.{ShelfState}
use Rattle.xl_outcome.specs.Outcome.{FaultsRose, ShelfCause, ShelfCauseOf}
use Rattle.xl_outcome.specs.declared.stopped.Stopped.{Stopped}
use Rattle.xl_outcome.specs.declared.stopped.Stopped.TheVariants.{SourceFault, BadHead, BadLine, ShelfFault, Refused}
use Rattle.xl_outcome.specs.declared.stopped.Stopped.TheVariants.{NotFlattened, SaveFault, Rejected, SinkFault, Memory}

-- the cause of a command that a fault of reading stops
pub cause_of : (before after : ShelfState) (command : Asked) (result : Result (Unit {0}) Stopped)
    → (Rose before.reading after.reading → FaultsRose before after command)
    → ShelfCause before.reading after.reading result → ShelfCauseOf before after command result
cause_of before after command (Ok x) rises cause = cause
cause_of before after command (Err SourceFault) rises cause = cause
cause_of before after command (Err BadHead) rises cause = cause
cause_of before after command (Err (BadLine bad)) rises cause = cause
cause_of before after command (Err ShelfFault) rises cause = rises cause
cause_of before after command (Err (Refused why)) rises cause = cause
cause_of before after command (Err (NotFlattened why)) rises cause = cause
cause_of before after command (Err SaveFault) rises cause = cause
cause_of before after command (Err (Rejected why)) rises cause = cause
cause_of before after command (Err SinkFault) rises cause = cause
cause_of before after command (Err Memory) rises cause = cause
