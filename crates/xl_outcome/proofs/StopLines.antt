-- The line that is written after a command stopped.
use Rattle.std.proofs.Common.{◌≡◌, ◌⊎◌, inl, inr, ℕ, List, Option, Some, Result, Ok, Err, ◌∙◌, ap, sym, subst, take, arith}
use Rattle.std.specs.Prelude.{IfSome, IfOk, MatchResult, String, string_bytes}
use Rattle.std.specs.declared.alloc.AllocError.{AllocError}
use Rattle.std.specs.declared.alloc.Global.{Global}
use Rattle.spec_command.specs.Arguments.{Asked, render, edit, info, make, pack, flatten, view, audit, name_of}
use Rattle.spec_command.specs.Ends.{Stop, source_fault, bad_head, bad_line, shelf_fault, refused, flat_refused, stop_line, stop_status}
use Rattle.spec_fields.specs.declared.ReadRefused.{ReadRefused}
use Rattle.spec_flat.specs.declared.FlatRefused.{FlatRefused}
use Rattle.xl_ports.specs.Faults.{Rose}
use Rattle.xl_ports.specs.Shelf.{Content}
use Rattle.xl_ports.specs.Sink.{appended}
use Rattle.xl_ports.specs.State.{ShelfState}
use Rattle.xl_outcome.specs.Command.{IsFlatten, ReadsFile, ReadsSource}
use Rattle.xl_outcome.specs.Endings.{unsaved, rejected}
use Rattle.xl_outcome.specs.Files.{CannotBeFlat, HasFault}
use Rattle.xl_outcome.specs.Lines.{WritesLine}
use Rattle.xl_outcome.specs.Outcome.{Given, InGrammar, IsBadHeadOf, IsBadLineOf, Keeps, ComesTo, IsOutput, RefusesSource}
use Rattle.xl_outcome.specs.Outcome.{ShelfCauseOf, ShelfFails, WritesLineOr, WritesRejection, WritesStop, WritesSome}
use Rattle.xl_outcome.specs.Parts.{StopsFor}
use Rattle.xl_script.specs.declared.bad_line.BadLine as refused_line
use Rattle.xl_outcome.specs.declared.stopped.Stopped.{Stopped}
use Rattle.xl_outcome.specs.declared.stopped.Stopped.TheVariants.{SourceFault, BadHead, BadLine, ShelfFault, Refused}
use Rattle.xl_outcome.specs.declared.stopped.Stopped.TheVariants.{NotFlattened, SaveFault, Rejected, SinkFault, Memory}

module _ {K : Type 0} (held : K → Option (List ℕ)) (faults : K → ℕ) where
  -- a line that was made is written, and else nothing
  pub text_written : (r : Result (String Global) AllocError) (stop : Stop) (status : ℕ) (old new : K)
      → IfOk r (λ s. string_bytes s ≡ stop_line stop)
      → MatchResult r (λ s. (status ≡ stop_status stop) × WritesLine held faults old new (string_bytes s))
      (λ e. (status ≡ 8) × (new ≡ old))
      → WritesLineOr held faults old new stop status
  text_written (Ok s) stop status old new is told = inl (told.0, subst (WritesLine held faults old new) is told.1)
  text_written (Err e) stop status old new is told = inr (told.0, (ap held told.1, ap faults told.1))

  -- a line behind nothing
  pub kept_then_written : (old mid new : K) (text : List ℕ) → Keeps held faults old mid → WritesLine held faults mid new text
      → WritesLine held faults old new text
  kept_then_written old mid new text kept (inl all) = inl (record {
    holds = all.holds ∙ ap (λ (h : Option (List ℕ)). appended h text) kept.0;
    no_fault = all.no_fault ∙ kept.1;
  })
  kept_then_written old mid new text kept (inr part) = inr (record {
    count = part.count;
    within = part.within;
    holds = part.holds ∙ ap (λ (h : Option (List ℕ)). appended h (take part.count text)) kept.0;
    fault = subst (λ (n : ℕ). Rose n (faults new)) kept.1 part.fault;
  })

-- what stops a command whose script was read
abbrev IsLate : Stopped → Type 0
IsLate ShelfFault = Unit {0}
IsLate SaveFault = Unit {0}
IsLate (Refused why) = Unit {0}
IsLate SourceFault = ⊥
IsLate BadHead = ⊥
IsLate (BadLine bad) = ⊥
IsLate (NotFlattened why) = ⊥
IsLate (Rejected why) = ⊥
IsLate SinkFault = ⊥
IsLate Memory = ⊥

module _ {K : Type 0} (held : K → Option (List ℕ)) (faults : K → ℕ) where
  -- status 4 or 6 tells of that
  is_late : (stopped : Stopped) (status last : ℕ) (mid new : K) → status ≡ last → (last ≡ 4) ⊎ (last ≡ 6)
      → WritesStop held faults mid new stopped status → IsLate stopped
  is_late ShelfFault status last mid new same which told = tt
  is_late SaveFault status last mid new same which told = tt
  is_late (Refused why) status last mid new same which told = tt
  is_late SourceFault status last mid new same (inl four) told = absurd (omega (arith, same, four, told.0))
  is_late SourceFault status last mid new same (inr six) told = absurd (omega (arith, same, six, told.0))
  is_late BadHead status last mid new same (inl four) told = absurd (omega (arith, same, four, told.0))
  is_late (BadLine bad) status last mid new same (inl four) (inl told) = absurd (omega (arith, same, four, told.0))
  is_late (BadLine bad) status last mid new same (inl four) (inr told) = absurd (omega (arith, same, four, told.0))
  is_late BadHead status last mid new same (inr six) told = absurd (omega (arith, same, six, told.0))
  is_late (BadLine bad) status last mid new same (inr six) (inl told) = absurd (omega (arith, same, six, told.0))
  is_late (BadLine bad) status last mid new same (inr six) (inr told) = absurd (omega (arith, same, six, told.0))
  is_late (NotFlattened why) status last mid new same (inl four) (inl told) = absurd (omega (arith, same, four, told.0))
  is_late (NotFlattened why) status last mid new same (inl four) (inr told) = absurd (omega (arith, same, four, told.0))
  is_late (NotFlattened why) status last mid new same (inr six) (inl told) = absurd (omega (arith, same, six, told.0))
  is_late (NotFlattened why) status last mid new same (inr six) (inr told) = absurd (omega (arith, same, six, told.0))
  is_late (Rejected why) status last mid new same (inl four) told = absurd (omega (arith, same, four, told.0))
  is_late (Rejected why) status last mid new same (inr six) told = absurd (omega (arith, same, six, told.0))
  is_late SinkFault status last mid new same (inl four) told = absurd (omega (arith, same, four, told.0))
  is_late SinkFault status last mid new same (inr six) told = absurd (omega (arith, same, six, told.0))
  is_late Memory status last mid new same (inl four) told = absurd (omega (arith, same, four, told.0))
  is_late Memory status last mid new same (inr six) told = absurd (omega (arith, same, six, told.0))

module _ (given : Given) (content : List ℕ → Option Content) where
  late_in_grammar : (command : Asked) (stopped : Stopped) → IsLate stopped → StopsFor given content command (Err stopped)
      → InGrammar given (Some command)
  late_in_grammar (render name) stopped late stops = tt
  late_in_grammar (info name with_all) stopped late stops = tt
  late_in_grammar (make name seed) stopped late stops = tt
  late_in_grammar (pack name with_plans) stopped late stops = tt
  late_in_grammar (flatten name) stopped late stops = tt
  late_in_grammar (edit name workers) ShelfFault late stops = stops
  late_in_grammar (edit name workers) SaveFault late stops = stops
  late_in_grammar (edit name workers) (Refused why) late stops = stops.0
  late_in_grammar (edit name workers) SourceFault late stops = absurd late
  late_in_grammar (edit name workers) BadHead late stops = absurd late
  late_in_grammar (edit name workers) (BadLine bad) late stops = absurd late
  late_in_grammar (edit name workers) (NotFlattened why) late stops = absurd late
  late_in_grammar (edit name workers) (Rejected why) late stops = absurd late
  late_in_grammar (edit name workers) SinkFault late stops = absurd late
  late_in_grammar (edit name workers) Memory late stops = absurd late
  late_in_grammar (view name cols rows) ShelfFault late stops = stops
  late_in_grammar (view name cols rows) SaveFault late stops = absurd stops
  late_in_grammar (view name cols rows) (Rejected why) late stops = absurd stops
  late_in_grammar (view name cols rows) (Refused why) late stops = stops.0
  late_in_grammar (view name cols rows) SourceFault late stops = absurd late
  late_in_grammar (view name cols rows) BadHead late stops = absurd late
  late_in_grammar (view name cols rows) (BadLine bad) late stops = absurd late
  late_in_grammar (view name cols rows) (NotFlattened why) late stops = absurd late
  late_in_grammar (view name cols rows) SinkFault late stops = absurd late
  late_in_grammar (view name cols rows) Memory late stops = absurd late
  late_in_grammar (audit name) ShelfFault late stops = stops
  late_in_grammar (audit name) SaveFault late stops = absurd stops
  late_in_grammar (audit name) (Refused why) late stops = stops.0
  late_in_grammar (audit name) SourceFault late stops = absurd late
  late_in_grammar (audit name) BadHead late stops = absurd late
  late_in_grammar (audit name) (BadLine bad) late stops = absurd late
  late_in_grammar (audit name) (NotFlattened why) late stops = absurd late
  late_in_grammar (audit name) (Rejected why) late stops = absurd late
  late_in_grammar (audit name) SinkFault late stops = absurd late
  late_in_grammar (audit name) Memory late stops = absurd late

  -- where a file is refused or the shelf failed, the script is in the grammar
  pub script_in_grammar : {K : Type 0} (held : K → Option (List ℕ)) (faults : K → ℕ) (command : Asked) (stopped : Stopped)
      (status last : ℕ) (mid new : K) → status ≡ last
      → (last ≡ 4) ⊎ (last ≡ 6) → StopsFor given content command (Err stopped)
      → WritesStop held faults mid new stopped status → InGrammar given (Some command)
  script_in_grammar held faults command stopped status last mid new same which stops told =
      late_in_grammar command stopped (is_late held faults stopped status last mid new same which told) stops

  -- what a refused line says of each command
  bad_line_of : (command : Asked) (bad : refused_line.BadLine) → StopsFor given content command (Err (BadLine bad))
      → IsBadLineOf given (Some command) bad.line
  bad_line_of (render name) bad stops = absurd stops
  bad_line_of (info name with_all) bad stops = absurd stops
  bad_line_of (make name seed) bad stops = absurd stops
  bad_line_of (pack name with_plans) bad stops = absurd stops
  bad_line_of (flatten name) bad stops = absurd stops
  bad_line_of (edit name workers) bad stops = stops.0
  bad_line_of (view name cols rows) bad stops = stops.0
  bad_line_of (audit name) bad stops = stops

  -- and what a refused head does
  bad_head_of : (command : Asked) → StopsFor given content command (Err BadHead) → IsBadHeadOf given (Some command)
  bad_head_of (render name) stops = absurd stops
  bad_head_of (info name with_all) stops = absurd stops
  bad_head_of (make name seed) stops = absurd stops
  bad_head_of (pack name with_plans) stops = absurd stops
  bad_head_of (flatten name) stops = absurd stops
  bad_head_of (edit name workers) stops = absurd stops
  bad_head_of (view name cols rows) stops = absurd stops
  bad_head_of (audit name) stops = stops

  -- what a refused file says of each command
  fault_of : (command : Asked) (why : ReadRefused) → StopsFor given content command (Err (Refused why))
      → IfSome (content (name_of command)) (λ c. HasFault c why)
  fault_of (render name) why stops = stops
  fault_of (info name with_all) why stops = stops
  fault_of (make name seed) why stops = absurd stops
  fault_of (edit name workers) why stops = stops.1
  fault_of (pack name with_plans) why stops = stops
  fault_of (flatten name) why stops = stops
  fault_of (view name cols rows) why stops = stops.1
  fault_of (audit name) why stops = stops.1

  -- a command whose file is refused reads one
  reads_file : (command : Asked) (why : ReadRefused) → StopsFor given content command (Err (Refused why)) → ReadsFile (Some command)
  reads_file (render name) why stops = tt
  reads_file (info name with_all) why stops = tt
  reads_file (make name seed) why stops = absurd stops
  reads_file (edit name workers) why stops = tt
  reads_file (pack name with_plans) why stops = tt
  reads_file (flatten name) why stops = tt
  reads_file (view name cols rows) why stops = tt
  reads_file (audit name) why stops = tt

  -- only one command asks whether the image can be made flat
  flat_of : (command : Asked) (why : FlatRefused) → StopsFor given content command (Err (NotFlattened why))
      → IsFlatten (Some command) × IfSome (content (name_of command)) (λ c. CannotBeFlat c why)
  flat_of (render name) why stops = absurd stops
  flat_of (info name with_all) why stops = absurd stops
  flat_of (make name seed) why stops = absurd stops
  flat_of (edit name workers) why stops = absurd stops
  flat_of (pack name with_plans) why stops = absurd stops
  flat_of (flatten name) why stops = (tt, stops)
  flat_of (view name cols rows) why stops = absurd stops
  flat_of (audit name) why stops = absurd stops

  -- only an edit, a view and an audit read the source
  pub reads_source : (command : Asked) → StopsFor given content command (Err SourceFault) → ReadsSource (Some command)
  reads_source (render name) stops = absurd stops
  reads_source (info name with_all) stops = absurd stops
  reads_source (make name seed) stops = absurd stops
  reads_source (pack name with_plans) stops = absurd stops
  reads_source (flatten name) stops = absurd stops
  reads_source (edit name workers) stops = tt
  reads_source (view name cols rows) stops = tt
  reads_source (audit name) stops = tt

module _ {K : Type 0} (held : K → Option (List ℕ)) (faults : K → ℕ) (given : Given) (content : List ℕ → Option Content)
    (before after : ShelfState) where
  -- status 3 tells that the head of the source is refused, or the line of its script that is
  pub bad_source_written : (command : Asked) (stopped : Stopped) (status : ℕ) (old mid new : K) → status ≡ 3
      → ComesTo held faults given before after command old mid (Err stopped)
      → StopsFor given content command (Err stopped) → WritesStop held faults mid new stopped status
      → RefusesSource held faults given (Some command) old new
  bad_source_written command BadHead status old mid new three kept stops told = inl (
    bad_head_of given content command stops,
    kept_then_written held faults old mid new (stop_line bad_head) kept.0 told.1,
  )
  bad_source_written command (BadLine bad) status old mid new three kept stops (inl told) = inr (
    bad.line,
    bad_line_of given content command bad stops,
    kept_then_written held faults old mid new (stop_line (bad_line bad.line)) kept.0 told.1,
  )
  bad_source_written command (BadLine bad) status old mid new three kept stops (inr told) = absurd (omega (arith, three, told.0))
  bad_source_written command SourceFault status old mid new three kept stops told = absurd (omega (arith, three, told.0))
  bad_source_written command ShelfFault status old mid new three kept stops told = absurd (omega (arith, three, told.0))
  bad_source_written command (Refused why) status old mid new three kept stops (inl told) = absurd (omega (arith, three, told.0))
  bad_source_written command (Refused why) status old mid new three kept stops (inr told) = absurd (omega (arith, three, told.0))
  bad_source_written command (NotFlattened why) status old mid new three kept stops (inl told) = absurd (omega (arith, three, told.0))
  bad_source_written command (NotFlattened why) status old mid new three kept stops (inr told) = absurd (omega (arith, three, told.0))
  bad_source_written command SaveFault status old mid new three kept stops told = absurd (omega (arith, three, told.0))
  bad_source_written command (Rejected why) status old mid new three kept stops told = absurd (omega (arith, three, told.0))
  bad_source_written command SinkFault status old mid new three kept stops told = absurd (omega (arith, three, told.0))
  bad_source_written command Memory status old mid new three kept stops told = absurd (omega (arith, three, told.0))

  -- status 4 tells the first fault of the file that a command reads
  pub refusal_written : (command : Asked) (stopped : Stopped) (status : ℕ) (old mid new : K) → status ≡ 4
      → ComesTo held faults given before after command old mid (Err stopped)
      → StopsFor given content command (Err stopped) → WritesStop held faults mid new stopped status
      → (why : ReadRefused) × ReadsFile (Some command) × IfSome (content (name_of command)) (λ c. HasFault c why)
      × WritesLine held faults old new (stop_line (refused why))
  refusal_written command (Refused why) status old mid new four kept stops (inl told) = (
    why,
    reads_file given content command why stops,
    fault_of given content command why stops,
    kept_then_written held faults old mid new (stop_line (refused why)) kept.0 told.1,
  )
  refusal_written command (Refused why) status old mid new four kept stops (inr told) = absurd (omega (arith, four, told.0))
  refusal_written command BadHead status old mid new four kept stops told = absurd (omega (arith, four, told.0))
  refusal_written command (BadLine bad) status old mid new four kept stops (inl told) = absurd (omega (arith, four, told.0))
  refusal_written command (BadLine bad) status old mid new four kept stops (inr told) = absurd (omega (arith, four, told.0))
  refusal_written command (NotFlattened why) status old mid new four kept stops (inl told) = absurd (omega (arith, four, told.0))
  refusal_written command (NotFlattened why) status old mid new four kept stops (inr told) = absurd (omega (arith, four, told.0))
  refusal_written command SourceFault status old mid new four kept stops told = absurd (omega (arith, four, told.0))
  refusal_written command ShelfFault status old mid new four kept stops told = absurd (omega (arith, four, told.0))
  refusal_written command SaveFault status old mid new four kept stops told = absurd (omega (arith, four, told.0))
  refusal_written command (Rejected why) status old mid new four kept stops told = absurd (omega (arith, four, told.0))
  refusal_written command SinkFault status old mid new four kept stops told = absurd (omega (arith, four, told.0))
  refusal_written command Memory status old mid new four kept stops told = absurd (omega (arith, four, told.0))

  -- status 9 tells why the image of the file cannot be made flat
  pub flat_refusal_written : (command : Asked) (stopped : Stopped) (status : ℕ) (old mid new : K) → status ≡ 9
      → ComesTo held faults given before after command old mid (Err stopped)
      → StopsFor given content command (Err stopped) → WritesStop held faults mid new stopped status
      → (why : FlatRefused) × IsFlatten (Some command) × IfSome (content (name_of command)) (λ c. CannotBeFlat c why)
      × WritesLine held faults old new (stop_line (flat_refused why))
  flat_refusal_written command (NotFlattened why) status old mid new nine kept stops (inl told) =
      let flat = flat_of given content command why stops in
      (why, flat.0, flat.1, kept_then_written held faults old mid new (stop_line (flat_refused why)) kept.0 told.1)
  flat_refusal_written command (NotFlattened why) status old mid new nine kept stops (inr told) =
      absurd (omega (arith, nine, told.0))
  flat_refusal_written command BadHead status old mid new nine kept stops told = absurd (omega (arith, nine, told.0))
  flat_refusal_written command (BadLine bad) status old mid new nine kept stops (inl told) = absurd (omega (arith, nine, told.0))
  flat_refusal_written command (BadLine bad) status old mid new nine kept stops (inr told) = absurd (omega (arith, nine, told.0))
  flat_refusal_written command (Refused why) status old mid new nine kept stops (inl told) = absurd (omega (arith, nine, told.0))
  flat_refusal_written command (Refused why) status old mid new nine kept stops (inr told) = absurd (omega (arith, nine, told.0))
  flat_refusal_written command SourceFault status old mid new nine kept stops told = absurd (omega (arith, nine, told.0))
  flat_refusal_written command ShelfFault status old mid new nine kept stops told = absurd (omega (arith, nine, told.0))
  flat_refusal_written command SaveFault status old mid new nine kept stops told = absurd (omega (arith, nine, told.0))
  flat_refusal_written command (Rejected why) status old mid new nine kept stops told = absurd (omega (arith, nine, told.0))
  flat_refusal_written command SinkFault status old mid new nine kept stops told = absurd (omega (arith, nine, told.0))
  flat_refusal_written command Memory status old mid new nine kept stops told = absurd (omega (arith, nine, told.0))

  -- status 6 tells that the file could not be read or was not saved first, or a save failed and all is written
  pub shelf_fault_written : (command : Asked) (stopped : Stopped) (status : ℕ) (old mid new : K) → status ≡ 6
      → ComesTo held faults given before after command old mid (Err stopped)
      → ShelfCauseOf before after command (Err stopped) → WritesStop held faults mid new stopped status
      → ShelfFails held faults given before after (Some command) old new
  shelf_fault_written command ShelfFault status old mid new six kept cause told =
      inl (cause, kept.1, kept_then_written held faults old mid new (stop_line shelf_fault) kept.0 told.1)
  shelf_fault_written command SaveFault status old mid new six comes cause told =
      inr (
        cause,
        subst (λ (k : K). WritesSome held faults (IsOutput given before after command unsaved) old k) (sym told.1)
            comes,
      )
  shelf_fault_written command SourceFault status old mid new six comes cause told = absurd (omega (arith, six, told.0))
  shelf_fault_written command BadHead status old mid new six comes cause told = absurd (omega (arith, six, told.0))
  shelf_fault_written command (BadLine bad) status old mid new six comes cause (inl told) = absurd (omega (arith, six, told.0))
  shelf_fault_written command (BadLine bad) status old mid new six comes cause (inr told) = absurd (omega (arith, six, told.0))
  shelf_fault_written command (Refused why) status old mid new six comes cause (inl told) = absurd (omega (arith, six, told.0))
  shelf_fault_written command (Refused why) status old mid new six comes cause (inr told) = absurd (omega (arith, six, told.0))
  shelf_fault_written command (NotFlattened why) status old mid new six comes cause (inl told) = absurd (omega (arith, six, told.0))
  shelf_fault_written command (NotFlattened why) status old mid new six comes cause (inr told) = absurd (omega (arith, six, told.0))
  shelf_fault_written command (Rejected why) status old mid new six comes cause told = absurd (omega (arith, six, told.0))
  shelf_fault_written command SinkFault status old mid new six comes cause told = absurd (omega (arith, six, told.0))
  shelf_fault_written command Memory status old mid new six comes cause told = absurd (omega (arith, six, told.0))

  -- so it does of the words' command, whatever the sink is called afterwards
  pub shelf_fault_asked : (command : Asked) (stopped : Stopped) (status : ℕ) (old mid new : K) → status ≡ 6
      → ComesTo held faults given before after command old mid (Err stopped)
      → ShelfCauseOf before after command (Err stopped) → WritesStop held faults mid new stopped status
      → {asked : Option Asked} → Some command ≡ asked → {last : K} → new ≡ last
      → ShelfFails held faults given before after asked old last
  shelf_fault_asked command stopped status old mid new six comes cause told is {last} same =
      subst (λ (o : Option Asked). ShelfFails held faults given before after o old last) is
      (subst (λ (k : K). ShelfFails held faults given before after (Some command) old k) same
      (shelf_fault_written command stopped status old mid new six comes cause told))

  -- status 5 tells that the source failed
  pub source_fault_written : (command : Asked) (stopped : Stopped) (status : ℕ) (old mid new : K) → status ≡ 5
      → ComesTo held faults given before after command old mid (Err stopped)
      → StopsFor given content command (Err stopped) → WritesStop held faults mid new stopped status
      → ReadsSource (Some command) × WritesLine held faults old new (stop_line source_fault)
  source_fault_written command SourceFault status old mid new five kept stops told = (
    reads_source given content command stops,
    kept_then_written held faults old mid new (stop_line source_fault) kept.0 told.1,
  )
  source_fault_written command BadHead status old mid new five kept stops told = absurd (omega (arith, five, told.0))
  source_fault_written command (BadLine bad) status old mid new five kept stops (inl told) = absurd (omega (arith, five, told.0))
  source_fault_written command (BadLine bad) status old mid new five kept stops (inr told) = absurd (omega (arith, five, told.0))
  source_fault_written command ShelfFault status old mid new five kept stops told = absurd (omega (arith, five, told.0))
  source_fault_written command (Refused why) status old mid new five kept stops (inl told) = absurd (omega (arith, five, told.0))
  source_fault_written command (Refused why) status old mid new five kept stops (inr told) = absurd (omega (arith, five, told.0))
  source_fault_written command (NotFlattened why) status old mid new five kept stops (inl told) = absurd (omega (arith, five, told.0))
  source_fault_written command (NotFlattened why) status old mid new five kept stops (inr told) = absurd (omega (arith, five, told.0))
  source_fault_written command SaveFault status old mid new five kept stops told = absurd (omega (arith, five, told.0))
  source_fault_written command (Rejected why) status old mid new five kept stops told = absurd (omega (arith, five, told.0))
  source_fault_written command SinkFault status old mid new five kept stops told = absurd (omega (arith, five, told.0))
  source_fault_written command Memory status old mid new five kept stops told = absurd (omega (arith, five, told.0))

  -- status 10 tells that what was audited is rejected
  pub rejection_written : (command : Asked) (stopped : Stopped) (status : ℕ) (old mid new : K) → status ≡ 10
      → ComesTo held faults given before after command old mid (Err stopped) → WritesStop held faults mid new stopped status
      → WritesRejection held faults given before after (Some command) old new
  rejection_written command (Rejected why) status old mid new ten comes told =
      subst (λ (k : K). WritesSome held faults (IsOutput given before after command rejected) old k) (sym told.1)
      (comes.0, comes.1.0, comes.2)
  rejection_written command SourceFault status old mid new ten comes told = absurd (omega (arith, ten, told.0))
  rejection_written command BadHead status old mid new ten comes told = absurd (omega (arith, ten, told.0))
  rejection_written command (BadLine bad) status old mid new ten comes (inl told) = absurd (omega (arith, ten, told.0))
  rejection_written command (BadLine bad) status old mid new ten comes (inr told) = absurd (omega (arith, ten, told.0))
  rejection_written command ShelfFault status old mid new ten comes told = absurd (omega (arith, ten, told.0))
  rejection_written command (Refused why) status old mid new ten comes (inl told) = absurd (omega (arith, ten, told.0))
  rejection_written command (Refused why) status old mid new ten comes (inr told) = absurd (omega (arith, ten, told.0))
  rejection_written command (NotFlattened why) status old mid new ten comes (inl told) = absurd (omega (arith, ten, told.0))
  rejection_written command (NotFlattened why) status old mid new ten comes (inr told) = absurd (omega (arith, ten, told.0))
  rejection_written command SaveFault status old mid new ten comes told = absurd (omega (arith, ten, told.0))
  rejection_written command SinkFault status old mid new ten comes told = absurd (omega (arith, ten, told.0))
  rejection_written command Memory status old mid new ten comes told = absurd (omega (arith, ten, told.0))

  -- so it does of the words' command, whatever the sink is called afterwards
  pub rejection_asked : (command : Asked) (stopped : Stopped) (status : ℕ) (old mid new : K) → status ≡ 10
      → ComesTo held faults given before after command old mid (Err stopped) → WritesStop held faults mid new stopped status
      → {asked : Option Asked} → Some command ≡ asked → {last : K} → new ≡ last
      → WritesRejection held faults given before after asked old last
  rejection_asked command stopped status old mid new ten comes told is {last} same =
      subst (λ (o : Option Asked). WritesRejection held faults given before after o old last) is
      (subst (λ (k : K). WritesRejection held faults given before after (Some command) old k) same
      (rejection_written command stopped status old mid new ten comes told))

-- a source that is refused is told of the words' command, whatever the sink is called afterwards
pub source_refused : {K : Type 0} (held : K → Option (List ℕ)) (faults : K → ℕ) (given : Given) (one other : Option Asked)
    (old new last : K) → one ≡ other → new ≡ last → RefusesSource held faults given one old new
    → RefusesSource held faults given other old last
source_refused held faults given one other old new last is same told =
    subst (λ (o : Option Asked). RefusesSource held faults given o old last) is
    (subst (λ k. RefusesSource held faults given one old k) same told)
