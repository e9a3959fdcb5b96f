-- What the parts of a command come to.
use Rattle.std.specs.Prelude.{◌≡◌, ℕ, List, Option, Some, IfSome, Result, Ok, Err, String, string_bytes}
use Rattle.std.specs.declared.alloc.AllocError.{AllocError}
use Rattle.std.specs.declared.alloc.Global.{Global}
use Rattle.xl_printed.specs.Answers.{verdict_line, rejection_of}
use Rattle.spec_audit.specs.declared.Verdict.{Verdict}
use Rattle.spec_audit.specs.declared.Verdict.TheVariants.{Accepted}
use Rattle.spec_command.specs.Arguments.{Asked, edit, render, info, make, pack, flatten, view, audit}
use Rattle.spec_document.specs.Document.{Document}
use Rattle.spec_script.specs.Script.{list_at}
use Rattle.xl_ports.specs.Shelf.{Content}
use Rattle.xl_ports.specs.Sink.{WritesAll, WritesPart}
use Rattle.xl_outcome.specs.Auditing.{HasAudit, IsAuditScript, IsBadAuditLine}
use Rattle.xl_outcome.specs.Files.{CannotBeFlat, HasFault, HoldsDocument}
use Rattle.xl_outcome.specs.Outcome.{first_filters, Given, HasLines, IsScript, IsBadLine}
use Rattle.xl_outcome.specs.Viewing.{HasViewLines, IsBadViewLine, IsViewScript}
use Rattle.xl_outcome.specs.declared.stopped.Stopped.{Stopped}
use Rattle.xl_outcome.specs.declared.stopped.Stopped.TheVariants.{SourceFault, BadHead, BadLine, ShelfFault, Refused}
use Rattle.xl_outcome.specs.declared.stopped.Stopped.TheVariants.{NotFlattened, SaveFault, Rejected, SinkFault, Memory}
use Rattle.xl_script.specs.Lines.{lists_of}
use Rattle.xl_script.specs.declared.script.Line.{Line}
use Rattle.xl_printed.specs.Reading.{IsBadHead}
use Rattle.xl_printed.specs.declared.reading.Audit.{Audit}
use Rattle.xl_words.specs.Causes.{Blames}

-- the document of the file, or its first fault
abbrev pub Loads : Option Content → Result Document Stopped → Type 0
Loads content (Ok d) = IfSome content (λ c. HoldsDocument c d)
Loads content (Err (Refused refused)) = IfSome content (λ c. HasFault c refused)
Loads content (Err ShelfFault) = Unit {0}
Loads content (Err Memory) = Unit {0}
Loads content (Err stopped) = ⊥

-- the lines of the script, or the line that is refused, and a cause that blames a word rightly
abbrev pub ReadsScript : Given → Result (List (List Line)) Stopped → Type 0
ReadsScript given (Ok lists) = HasLines given (lists_of lists)
ReadsScript given (Err (BadLine bad)) = IsBadLine given bad.line × Blames bad.cause
ReadsScript given (Err SourceFault) = Unit {0}
ReadsScript given (Err Memory) = Unit {0}
ReadsScript given (Err stopped) = ⊥

-- the same of a script that may be viewed
abbrev pub ReadsViewed : Given → Result (List (List Line)) Stopped → Type 0
ReadsViewed given (Ok lists) = HasViewLines given.left (first_filters given) (list_at (lists_of lists) 0)
ReadsViewed given (Err (BadLine bad)) = IsBadViewLine given.left (first_filters given) bad.line × Blames bad.cause
ReadsViewed given (Err SourceFault) = Unit {0}
ReadsViewed given (Err Memory) = Unit {0}
ReadsViewed given (Err stopped) = ⊥

-- the script and the output of an audit, or why there are none
abbrev pub ReadsSourceOf : Given → Result Audit Stopped → Type 0
ReadsSourceOf given (Ok found) = HasAudit given.left given.chests (lists_of found.script) found.output.items
ReadsSourceOf given (Err SourceFault) = Unit {0}
ReadsSourceOf given (Err BadHead) = IsBadHead given.left
ReadsSourceOf given (Err (BadLine bad)) = IsBadAuditLine given.left given.chests bad.line
ReadsSourceOf given (Err ShelfFault) = ⊥
ReadsSourceOf given (Err (Refused why)) = ⊥
ReadsSourceOf given (Err (NotFlattened why)) = ⊥
ReadsSourceOf given (Err SaveFault) = ⊥
ReadsSourceOf given (Err (Rejected why)) = ⊥
ReadsSourceOf given (Err SinkFault) = ⊥
ReadsSourceOf given (Err Memory) = Unit {0}

module _ {K : Type 0} (held : K → Option (List ℕ)) (faults : K → ℕ) where
  -- the text was written, or a fault of the sink came; without memory for a text nothing was
  abbrev pub WritesViewed : (old new : K) → Result (String Global) AllocError → Result (Unit {0}) Stopped → Type 0
  WritesViewed old new (Ok text) (Ok x) = WritesAll held faults old new (string_bytes text)
  WritesViewed old new (Ok text) (Err SinkFault) = WritesPart held faults old new (string_bytes text)
  WritesViewed old new (Ok text) (Err stopped) = ⊥
  WritesViewed old new (Err e) result = (result ≡ Err Memory) × (new ≡ old)

  -- the line of the verdict was written, after which a rejection stops the command and is told; or a fault of the sink came
  abbrev pub WritesLineOf : (old new : K) → Verdict → Result (Unit {0}) Stopped → Type 0
  WritesLineOf old new verdict (Ok x) = WritesAll held faults old new (verdict_line verdict) × (verdict ≡ Accepted)
  WritesLineOf old new verdict (Err (Rejected why)) =
      WritesAll held faults old new (verdict_line verdict) × (rejection_of verdict ≡ Some why)
  WritesLineOf old new verdict (Err SinkFault) = WritesPart held faults old new (verdict_line verdict)
  WritesLineOf old new verdict (Err Memory) = new ≡ old
  WritesLineOf old new verdict (Err SourceFault) = ⊥
  WritesLineOf old new verdict (Err BadHead) = ⊥
  WritesLineOf old new verdict (Err (BadLine bad)) = ⊥
  WritesLineOf old new verdict (Err ShelfFault) = ⊥
  WritesLineOf old new verdict (Err (Refused why)) = ⊥
  WritesLineOf old new verdict (Err (NotFlattened why)) = ⊥
  WritesLineOf old new verdict (Err SaveFault) = ⊥

  -- without memory for a verdict nothing was written
  abbrev pub WritesVerdict : (old new : K) → Result Verdict AllocError → Result (Unit {0}) Stopped → Type 0
  WritesVerdict old new (Ok verdict) result = WritesLineOf old new verdict result
  WritesVerdict old new (Err e) result = (result ≡ Err Memory) × (new ≡ old)

-- why a command that reads a file, and no script, stops
abbrev pub StopsReport : Option Content → Result (Unit {0}) Stopped → Type 0
StopsReport content (Ok x) = Unit {0}
StopsReport content (Err SourceFault) = ⊥
StopsReport content (Err BadHead) = ⊥
StopsReport content (Err (BadLine bad)) = ⊥
StopsReport content (Err ShelfFault) = Unit {0}
StopsReport content (Err (Refused refused)) = IfSome content (λ c. HasFault c refused)
StopsReport content (Err (NotFlattened why)) = ⊥
StopsReport content (Err SaveFault) = ⊥
StopsReport content (Err (Rejected why)) = ⊥
StopsReport content (Err SinkFault) = Unit {0}
StopsReport content (Err Memory) = Unit {0}

-- why one stops that makes the image flat
abbrev pub StopsFlatten : Option Content → Result (Unit {0}) Stopped → Type 0
StopsFlatten content (Ok x) = Unit {0}
StopsFlatten content (Err SourceFault) = ⊥
StopsFlatten content (Err BadHead) = ⊥
StopsFlatten content (Err (BadLine bad)) = ⊥
StopsFlatten content (Err ShelfFault) = Unit {0}
StopsFlatten content (Err (Refused refused)) = IfSome content (λ c. HasFault c refused)
StopsFlatten content (Err (NotFlattened why)) = IfSome content (λ c. CannotBeFlat c why)
StopsFlatten content (Err SaveFault) = ⊥
StopsFlatten content (Err (Rejected why)) = ⊥
StopsFlatten content (Err SinkFault) = Unit {0}
StopsFlatten content (Err Memory) = Unit {0}

-- why an editing stops: the script is read before the file
abbrev pub StopsEdit : Given → Option Content → Result (Unit {0}) Stopped → Type 0
StopsEdit given content (Ok x) = Unit {0}
StopsEdit given content (Err SourceFault) = Unit {0}
StopsEdit given content (Err BadHead) = ⊥
StopsEdit given content (Err (BadLine bad)) = IsBadLine given bad.line × Blames bad.cause
StopsEdit given content (Err ShelfFault) = IsScript given
StopsEdit given content (Err (Refused refused)) = IsScript given × IfSome content (λ c. HasFault c refused)
StopsEdit given content (Err (NotFlattened why)) = ⊥
StopsEdit given content (Err SaveFault) = IsScript given
StopsEdit given content (Err (Rejected why)) = ⊥
StopsEdit given content (Err SinkFault) = Unit {0}
StopsEdit given content (Err Memory) = Unit {0}

-- why a viewing stops: the script is read before the file, and nothing is saved
abbrev pub StopsView : Given → Option Content → Result (Unit {0}) Stopped → Type 0
StopsView given content (Ok x) = Unit {0}
StopsView given content (Err SourceFault) = Unit {0}
StopsView given content (Err BadHead) = ⊥
StopsView given content (Err (BadLine bad)) = IsBadViewLine given.left (first_filters given) bad.line × Blames bad.cause
StopsView given content (Err ShelfFault) = IsViewScript given.left (first_filters given)
StopsView given content (Err (Refused refused)) =
    IsViewScript given.left (first_filters given) × IfSome content (λ c. HasFault c refused)
StopsView given content (Err (NotFlattened why)) = ⊥
StopsView given content (Err SaveFault) = ⊥
StopsView given content (Err (Rejected why)) = ⊥
StopsView given content (Err SinkFault) = Unit {0}
StopsView given content (Err Memory) = Unit {0}

-- why an audit stops: its head and script are read before the file, and nothing is saved
abbrev pub StopsAudit : Given → Option Content → Result (Unit {0}) Stopped → Type 0
StopsAudit given content (Ok x) = Unit {0}
StopsAudit given content (Err SourceFault) = Unit {0}
StopsAudit given content (Err BadHead) = IsBadHead given.left
StopsAudit given content (Err (BadLine bad)) = IsBadAuditLine given.left given.chests bad.line
StopsAudit given content (Err ShelfFault) = IsAuditScript given.left given.chests
StopsAudit given content (Err (Refused refused)) = IsAuditScript given.left given.chests × IfSome content (λ c. HasFault c refused)
StopsAudit given content (Err (NotFlattened why)) = ⊥
StopsAudit given content (Err SaveFault) = ⊥
StopsAudit given content (Err (Rejected why)) = Unit {0}
StopsAudit given content (Err SinkFault) = Unit {0}
StopsAudit given content (Err Memory) = Unit {0}

-- why a making stops: it reads neither a script nor a file
abbrev pub StopsMaking : Result (Unit {0}) Stopped → Type 0
StopsMaking (Ok x) = Unit {0}
StopsMaking (Err SourceFault) = ⊥
StopsMaking (Err BadHead) = ⊥
StopsMaking (Err (BadLine bad)) = ⊥
StopsMaking (Err ShelfFault) = Unit {0}
StopsMaking (Err (Refused refused)) = ⊥
StopsMaking (Err (NotFlattened why)) = ⊥
StopsMaking (Err SaveFault) = Unit {0}
StopsMaking (Err (Rejected why)) = ⊥
StopsMaking (Err SinkFault) = Unit {0}
StopsMaking (Err Memory) = Unit {0}

-- why a command stops
abbrev pub StopsFor : Given → (content : List ℕ → Option Content) → Asked → Result (Unit {0}) Stopped → Type 0
StopsFor given content (render name) result = StopsReport (content name) result
StopsFor given content (info name with_all) result = StopsReport (content name) result
StopsFor given content (edit name workers) result = StopsEdit given (content name) result
StopsFor given content (make name seed) result = StopsMaking result
StopsFor given content (pack name with_plans) result = StopsReport (content name) result
StopsFor given content (flatten name) result = StopsFlatten (content name) result
StopsFor given content (view name cols rows) result = StopsView given (content name) result
StopsFor given content (audit name) result = StopsAudit given (content name) result
