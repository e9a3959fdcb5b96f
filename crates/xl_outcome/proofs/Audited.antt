-- What an audit comes to.
use Rattle.std.proofs.Common.{◌≡◌, ◌∙◌, ℕ, List, ap, sym, subst, refl}
use Rattle.std.specs.Prelude.{Option, Some, IfSome, IfOk, Result, Ok, Err}
use Rattle.std.specs.declared.alloc.AllocError.{AllocError}
use Rattle.std.proofs.lemmas.Option.{none-some, same_Some}
use Rattle.xl_printed.specs.Answers.{verdict_line, rejection_of}
use Rattle.spec_audit.specs.Verdicts.{IsExact}
use Rattle.spec_audit.specs.declared.Verdict.{Verdict}
use Rattle.spec_audit.specs.declared.Verdict.TheVariants as verdicts
use Rattle.spec_audit.specs.declared.Verdict.TheVariants.{Accepted}
use Rattle.spec_command.specs.Arguments.{audit}
use Rattle.spec_document.specs.Document.{Document}
use Rattle.spec_document.specs.Limits.{IsDocument}
use Rattle.xl_ports.specs.Disk.{read_at}
use Rattle.xl_ports.specs.Shelf.{Content}
use Rattle.xl_ports.specs.State.{ShelfState}
use Rattle.xl_script.specs.Lines.{lists_of}
use Rattle.xl_outcome.specs.Auditing.{HasVerdict, IsAudited, rejection_line}
use Rattle.xl_outcome.specs.Endings.{Ending, well, rejected, in_part}
use Rattle.xl_outcome.specs.Files.{HoldsDocument}
use Rattle.xl_outcome.specs.Outcome.{Given, ComesTo, IsUntouched, ReadsToEnd}
use Rattle.xl_outcome.specs.Parts.{Loads, ReadsSourceOf, StopsAudit, WritesVerdict}
use Rattle.xl_outcome.specs.declared.stopped.Stopped.{Stopped}
use Rattle.xl_outcome.specs.declared.stopped.Stopped.TheVariants.{SourceFault, BadHead, BadLine, ShelfFault, Refused}
use Rattle.xl_outcome.specs.declared.stopped.Stopped.TheVariants.{NotFlattened, SaveFault, Rejected, SinkFault, Memory}
use Rattle.xl_printed.specs.declared.answers.Rejection.{Rejection}
use Rattle.xl_printed.specs.declared.answers.Rejection.TheVariants as rejections
use Rattle.xl_printed.specs.Reading.{ReadsAudit}
use Rattle.xl_printed.specs.declared.reading.Audit.{Audit}
use Rattle.xl_printed.specs.declared.reading.Unread.{Unread}
use Rattle.xl_outcome.proofs.Taken.{untouched}

-- ---- what an audit comes to

-- what is rejected for some reason was not accepted
not_accepted : (verdict : Verdict) (why : Rejection) → rejection_of verdict ≡ Some why → verdict ≡ Accepted → ⊥
not_accepted verdict why is accepted = none-some why (sym (ap rejection_of accepted) ∙ is)

-- its line names that reason
names_reason : (verdict : Verdict) (why : Rejection) → rejection_of verdict ≡ Some why → verdict_line verdict ≡ rejection_line why
names_reason verdicts.Accepted why is = absurd (none-some why is)
names_reason verdicts.Shape why is = ap rejection_line (same_Some rejections.Shape why is)
names_reason (verdicts.Reply session index) why is = ap rejection_line (same_Some (rejections.Reply session index) why is)

-- what was known when the output was judged
pub record IsAuditOpened (given : Given) (before mid : ShelfState) (name : List ℕ) (d : Document) (found : Audit) : Type 0 where
  pub holds : IfSome (read_at before.disk name) (λ c. HoldsDocument c d)
  pub within : IsDocument d
  pub read : ReadsSourceOf given (Ok found)
  pub untouched : IsUntouched before mid

module _ (given : Given) {before mid : ShelfState} {name : List ℕ} {d : Document} {found : Audit}
    (then : IsAuditOpened given before mid name d found) where
  is_audited : (ending : Ending) (verdict : Verdict)
      → IsExact (record { base = d; scripts = lists_of found.script; chests = given.chests }) found.output.items verdict
      → HasVerdict ending verdict → IsAudited given.left given.chests (read_at before.disk name) ending (verdict_line verdict)
  is_audited ending verdict exact ends = record {
    document = d;
    lists = lists_of found.script;
    output = found.output.items;
    verdict = verdict;
    held = then.holds;
    within = then.within;
    read = then.read;
    exact = exact;
    ends = ends;
    text = refl;
  }

  -- what is written, and the shelf
  pub audit_comes : {K : Type 0} (held : K → Option (List ℕ)) (faults : K → ℕ) (old new : K) (verdict : Result Verdict AllocError)
      (result : Result (Unit {0}) Stopped)
      → IfOk verdict (IsExact (record { base = d; scripts = lists_of found.script; chests = given.chests }) found.output.items)
      → WritesVerdict held faults old new verdict result → ComesTo held faults given before mid (audit name) old new result
  audit_comes held faults old new (Ok verdict) (Ok x) exact writes =
      (verdict_line verdict, (is_audited well verdict exact writes.1, then.untouched), writes.0)
  audit_comes held faults old new (Ok verdict) (Err (Rejected why)) exact writes =
      let audited = is_audited rejected verdict exact (not_accepted verdict why writes.1) in
      (verdict_line verdict, ((audited, then.untouched), names_reason verdict why writes.1), writes.0)
  audit_comes held faults old new (Ok verdict) (Err SinkFault) exact writes =
      (verdict_line verdict, (is_audited in_part verdict exact tt, then.untouched), writes)
  audit_comes held faults old new (Ok verdict) (Err Memory) exact writes = ((ap held writes, ap faults writes), then.untouched)
  audit_comes held faults old new (Ok verdict) (Err SourceFault) exact writes = absurd writes
  audit_comes held faults old new (Ok verdict) (Err BadHead) exact writes = absurd writes
  audit_comes held faults old new (Ok verdict) (Err (BadLine bad)) exact writes = absurd writes
  audit_comes held faults old new (Ok verdict) (Err ShelfFault) exact writes = absurd writes
  audit_comes held faults old new (Ok verdict) (Err (Refused why)) exact writes = absurd writes
  audit_comes held faults old new (Ok verdict) (Err (NotFlattened why)) exact writes = absurd writes
  audit_comes held faults old new (Ok verdict) (Err SaveFault) exact writes = absurd writes
  audit_comes held faults old new (Err e) result exact writes =
      subst (λ (r : Result (Unit {0}) Stopped). ComesTo held faults given before mid (audit name) old new r) (sym writes.0)
      ((ap held writes.1, ap faults writes.1), then.untouched)

-- ---- why an audit stops

-- before the file is read
pub audit_stopped : {K : Type 0} (held : K → Option (List ℕ)) (faults : K → ℕ) (given : Given) (s : ShelfState) (name : List ℕ)
    (sink : K) (why : Stopped) → ReadsSourceOf given (Err why)
    → ComesTo held faults given s s (audit name) sink sink (Err why)
audit_stopped held faults given s name sink SourceFault reads = ((refl, refl), untouched s)
audit_stopped held faults given s name sink BadHead reads = ((refl, refl), untouched s)
audit_stopped held faults given s name sink (BadLine bad) reads = ((refl, refl), untouched s)
audit_stopped held faults given s name sink ShelfFault reads = absurd reads
audit_stopped held faults given s name sink (Refused cause) reads = absurd reads
audit_stopped held faults given s name sink (NotFlattened cause) reads = absurd reads
audit_stopped held faults given s name sink SaveFault reads = absurd reads
audit_stopped held faults given s name sink (Rejected cause) reads = absurd reads
audit_stopped held faults given s name sink SinkFault reads = absurd reads
audit_stopped held faults given s name sink Memory reads = ((refl, refl), untouched s)

pub source_stops : (given : Given) (content : Option Content) (why : Stopped) → ReadsSourceOf given (Err why)
    → StopsAudit given content (Err why)
source_stops given content SourceFault reads = tt
source_stops given content BadHead reads = reads
source_stops given content (BadLine bad) reads = reads
source_stops given content ShelfFault reads = absurd reads
source_stops given content (Refused why) reads = absurd reads
source_stops given content (NotFlattened why) reads = absurd reads
source_stops given content SaveFault reads = absurd reads
source_stops given content (Rejected why) reads = absurd reads
source_stops given content SinkFault reads = absurd reads
source_stops given content Memory reads = tt

-- by the file
pub audit_file_stops : (given : Given) (content : Option Content) (found : Audit) (why : Stopped)
    → ReadsSourceOf given (Ok found) → Loads content (Err why) → StopsAudit given content (Err why)
audit_file_stops given content found SourceFault has loads = absurd loads
audit_file_stops given content found BadHead has loads = absurd loads
audit_file_stops given content found (BadLine bad) has loads = absurd loads
audit_file_stops given content found ShelfFault has loads = (lists_of found.script, found.output.items, has)
audit_file_stops given content found (Refused why) has loads = ((lists_of found.script, found.output.items, has), loads)
audit_file_stops given content found (NotFlattened why) has loads = absurd loads
audit_file_stops given content found SaveFault has loads = absurd loads
audit_file_stops given content found (Rejected why) has loads = absurd loads
audit_file_stops given content found SinkFault has loads = absurd loads
audit_file_stops given content found Memory has loads = tt

-- after the output was judged
pub verdict_stops : {K : Type 0} (held : K → Option (List ℕ)) (faults : K → ℕ) (old new : K) (given : Given) (content : Option Content)
    (verdict : Result Verdict AllocError) (result : Result (Unit {0}) Stopped)
    → WritesVerdict held faults old new verdict result → StopsAudit given content result
verdict_stops held faults old new given content (Ok verdict) (Ok x) writes = tt
verdict_stops held faults old new given content (Ok verdict) (Err SourceFault) writes = absurd writes
verdict_stops held faults old new given content (Ok verdict) (Err BadHead) writes = absurd writes
verdict_stops held faults old new given content (Ok verdict) (Err (BadLine bad)) writes = absurd writes
verdict_stops held faults old new given content (Ok verdict) (Err ShelfFault) writes = absurd writes
verdict_stops held faults old new given content (Ok verdict) (Err (Refused why)) writes = absurd writes
verdict_stops held faults old new given content (Ok verdict) (Err (NotFlattened why)) writes = absurd writes
verdict_stops held faults old new given content (Ok verdict) (Err SaveFault) writes = absurd writes
verdict_stops held faults old new given content (Ok verdict) (Err (Rejected why)) writes = tt
verdict_stops held faults old new given content (Ok verdict) (Err SinkFault) writes = tt
verdict_stops held faults old new given content (Ok verdict) (Err Memory) writes = tt
verdict_stops held faults old new given content (Err e) result writes = subst (StopsAudit given content) (sym writes.0) tt

-- where reading the source stops, it need not be at its end
pub unread_source : (given : Given) (left : Option (List ℕ)) (why : Stopped) → ReadsSourceOf given (Err why)
    → ReadsToEnd left (Err why)
unread_source given left SourceFault reads = tt
unread_source given left BadHead reads = tt
unread_source given left (BadLine bad) reads = tt
unread_source given left ShelfFault reads = absurd reads
unread_source given left (Refused why) reads = absurd reads
unread_source given left (NotFlattened why) reads = absurd reads
unread_source given left SaveFault reads = absurd reads
unread_source given left (Rejected why) reads = absurd reads
unread_source given left SinkFault reads = absurd reads
unread_source given left Memory reads = tt

-- ---- what is read with the numbers of filters as they were counted

pub audit_counted : (left : Option (List ℕ)) (counts others : List ℕ) (r : Result Audit Unread) → counts ≡ others
    → ReadsAudit left counts r → ReadsAudit left others r
audit_counted left counts others r same reads = subst (λ (ns : List ℕ). ReadsAudit left ns r) same reads
