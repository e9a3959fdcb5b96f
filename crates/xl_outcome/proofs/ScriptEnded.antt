-- A script that was read to its end.
use Rattle.std.proofs.Common.{◌≡◌, inl, inr, ℕ, true, false, List, sym, ◌∙◌, subst}
use Rattle.std.specs.Prelude.{Option, Result, Ok, Err}
use Rattle.xl_ports.specs.Source.{IsEnded}
use Rattle.xl_outcome.specs.Outcome.{Given, ComesAfterScript, ReadsToEnd, WritesStop}
use Rattle.xl_outcome.specs.Parts.{ReadsScript}
use Rattle.xl_outcome.specs.declared.stopped.Stopped.{Stopped}
use Rattle.xl_outcome.specs.declared.stopped.Stopped.TheVariants.{SourceFault, BadHead, BadLine, ShelfFault, Refused}
use Rattle.xl_outcome.specs.declared.stopped.Stopped.TheVariants.{NotFlattened, SaveFault, Rejected, SinkFault, Memory}

-- whatever comes behind it
pub ended_anyhow : (left : Option (List ℕ)) (result : Result (Unit {0}) Stopped) → IsEnded left → ReadsToEnd left result
ended_anyhow left (Ok x) ended = ended
ended_anyhow left (Err SourceFault) ended = tt
ended_anyhow left (Err BadHead) ended = tt
ended_anyhow left (Err (BadLine bad)) ended = tt
ended_anyhow left (Err ShelfFault) ended = ended
ended_anyhow left (Err (Refused why)) ended = ended
ended_anyhow left (Err (NotFlattened why)) ended = ended
ended_anyhow left (Err SaveFault) ended = ended
ended_anyhow left (Err (Rejected why)) ended = ended
ended_anyhow left (Err SinkFault) ended = ended
ended_anyhow left (Err Memory) ended = tt

-- where reading it stops, it need not be
pub unread : (given : Given) (left : Option (List ℕ)) (why : Stopped) → ReadsScript given (Err why) → ReadsToEnd left (Err why)
unread given left SourceFault reads = tt
unread given left BadHead reads = tt
unread given left (BadLine bad) reads = tt
unread given left ShelfFault reads = absurd reads
unread given left (Refused refused) reads = absurd reads
unread given left (NotFlattened cause) reads = absurd reads
unread given left SaveFault reads = absurd reads
unread given left (Rejected why) reads = absurd reads
unread given left SinkFault reads = absurd reads
unread given left Memory reads = tt

-- so it was at each status that comes behind it
pub ended_written : {K : Type 0} (held : K → Option (List ℕ)) (faults : K → ℕ) (left : Option (List ℕ)) (stopped : Stopped)
    (status last : ℕ) (old new : K) → status ≡ last
    → ComesAfterScript last → WritesStop held faults old new stopped status → ReadsToEnd left (Err stopped) → IsEnded left
ended_written held faults left SourceFault status last old new same after told reads =
    let bad : false ≡ true = subst ComesAfterScript (sym same ∙ told.0) after in cc
ended_written held faults left BadHead status last old new same after told reads =
    let bad : false ≡ true = subst ComesAfterScript (sym same ∙ told.0) after in cc
ended_written held faults left (BadLine bad) status last old new same after (inl told) reads =
    let bad : false ≡ true = subst ComesAfterScript (sym same ∙ told.0) after in cc
ended_written held faults left (BadLine bad) status last old new same after (inr told) reads =
    let bad : false ≡ true = subst ComesAfterScript (sym same ∙ told.0) after in cc
ended_written held faults left ShelfFault status last old new same after told reads = reads
ended_written held faults left (Refused why) status last old new same after told reads = reads
ended_written held faults left (NotFlattened why) status last old new same after told reads = reads
ended_written held faults left SaveFault status last old new same after told reads = reads
ended_written held faults left (Rejected why) status last old new same after told reads = reads
ended_written held faults left SinkFault status last old new same after told reads = reads
ended_written held faults left Memory status last old new same after told reads =
    let bad : false ≡ true = subst ComesAfterScript (sym same ∙ told.0) after in cc
