-- What a command writes, and why it may stop.
use Rattle.std.specs.Prelude.{◌≡◌, ◌⊎◌, ◌==◌, ◌+◌, ◌^◌, ◌≤◌, ℕ, List, [], ◌∷◌, length, map, Option, Some, None, IfSome, IsTrue, option_map}
use Rattle.std.specs.Prelude.{Result, Ok, Err, Vec}
use Rattle.std.specs.declared.alloc.Global.{Global}
use Rattle.std.specs.List.{list_any}
use Rattle.spec_audit.specs.declared.TheConstants.{MAX_SOURCE_BYTES}
use Rattle.spec_command.specs.Arguments.{Asked, edit, render, info, make, pack, flatten, view, audit, name_of}
use Rattle.spec_command.specs.Ends.{Stop, source_fault, bad_head, bad_line, shelf_fault, refused, flat_refused, stop_line, stop_status}
use Rattle.spec_document.specs.Document.{Document}
use Rattle.spec_document.specs.Limits.{IsDocument}
use Rattle.spec_listing.specs.Listing as listing
use Rattle.spec_report.specs.Pam.{pam}
use Rattle.spec_filters.specs.declared.FilterState.{FilterState}
use Rattle.spec_generated.specs.Generated.{document, script as made_script}
use Rattle.spec_script.specs.declared.TheConstants.{MAX_SCRIPT_BYTES}
use Rattle.spec_script.specs.Script.{Line, list_at, script}
use Rattle.spec_history.specs.History.{Entry}
use Rattle.spec_history.specs.Kept.{IsLegal}
use Rattle.spec_saves.specs.Names.{save_faults}
use Rattle.spec_saves.specs.Shelf.{ShelfIsRight}
use Rattle.spec_text.specs.Text.{IsTextOf, Alone}
use Rattle.spec_run.specs.First.{AreOfFirst}
use Rattle.spec_run.specs.Fronts.{IsFrontOf}
use Rattle.spec_run.specs.Versions.{AreWithin}
use Rattle.xl_ports.specs.Disk.{read_at, Between, IsQuiet, StaysThrough}
use Rattle.xl_ports.specs.Faults.{Rose}
use Rattle.xl_ports.specs.Shelf.{Content}
use Rattle.xl_ports.specs.Sink.{WritesAll, WritesPart}
use Rattle.xl_ports.specs.Source.{led_by, IsEnded}
use Rattle.xl_ports.specs.State.{ShelfState}
use Rattle.xl_filters.specs.Chests.{states_of}
use Rattle.xl_outcome.specs.Auditing.{IsAudited, IsAuditScript, IsBadAuditLine, rejection_line}
use Rattle.xl_outcome.specs.Endings.{Ending, well, unsaved, rejected, in_part, HaveFailed}
use Rattle.xl_outcome.specs.Files.{HoldsDocument}
use Rattle.xl_outcome.specs.Flattening.{IsFlattened, MayBeFlattened}
use Rattle.spec_run.specs.LastSaved.{HasLastSaved}
use Rattle.xl_outcome.specs.Lines.{WritesLine}
use Rattle.xl_outcome.specs.Making.{FailsAtFirst, IsMadeHistory, IsSummary}
use Rattle.xl_outcome.specs.Packing.{IsPacked, MayBePacked}
use Rattle.xl_outcome.specs.Viewing.{IsBadViewLine, IsViewed, IsViewScript}
use Rattle.xl_outcome.specs.declared.stopped.Stopped.{Stopped}
use Rattle.xl_outcome.specs.declared.stopped.Stopped.TheVariants.{SourceFault, BadHead, BadLine, ShelfFault, Refused}
use Rattle.xl_outcome.specs.declared.stopped.Stopped.TheVariants.{NotFlattened, SaveFault, Rejected, SinkFault, Memory}
use Rattle.xl_printed.specs.Reading.{IsBadHead}

-- ---- the script, which is all that the source has left, or stands in it behind the head of an audit

-- what a run is given beside the file: what its source has left, and the states of each session's filters
pub record Given : Type 0 where
  pub left : Option (List ℕ)
  pub chests : List (List FilterState)

abbrev pub given_of : {B : Type 0} → (left : Option (List ℕ)) → (state : B → FilterState) → List (Vec B Global) → Given
given_of left state lists = record { left = left; chests = states_of state lists }

-- the script is in the grammar, where it is told, and has these lines
abbrev pub HasLines : Given → List (List Line) → Type 0
HasLines given lists = IfSome given.left (λ text. script text (map length given.chests) ≡ Ok lists)

-- the script is in the grammar, where it is told
abbrev pub IsScript : Given → Type 0
IsScript given = (lists : List (List Line)) × HasLines given lists

-- the script is refused at this line, where it is told
abbrev pub IsBadLine : Given → (number : ℕ) → Type 0
IsBadLine given number = IfSome given.left (λ text. script text (map length given.chests) ≡ Err number)

-- the filters of session 0
abbrev pub first_filters : Given → List FilterState
first_filters given = list_at given.chests 0

-- the script of the command is refused at this line, where it is told; only an edit, a view and an audit have one
abbrev pub IsBadLineOf : Given → Option Asked → (number : ℕ) → Type 0
IsBadLineOf given None number = ⊥
IsBadLineOf given (Some (edit name workers)) number = IsBadLine given number
IsBadLineOf given (Some (render name)) number = ⊥
IsBadLineOf given (Some (info name with_all)) number = ⊥
IsBadLineOf given (Some (make name seed)) number = ⊥
IsBadLineOf given (Some (pack name with_plans)) number = ⊥
IsBadLineOf given (Some (flatten name)) number = ⊥
IsBadLineOf given (Some (view name cols rows)) number = IsBadViewLine given.left (first_filters given) number
IsBadLineOf given (Some (audit name)) number = IsBadAuditLine given.left given.chests number

-- the source of the command has no head, or too few or too many bytes behind it, where it is told; only an audit has one
abbrev pub IsBadHeadOf : Given → Option Asked → Type 0
IsBadHeadOf given None = ⊥
IsBadHeadOf given (Some (edit name workers)) = ⊥
IsBadHeadOf given (Some (render name)) = ⊥
IsBadHeadOf given (Some (info name with_all)) = ⊥
IsBadHeadOf given (Some (make name seed)) = ⊥
IsBadHeadOf given (Some (pack name with_plans)) = ⊥
IsBadHeadOf given (Some (flatten name)) = ⊥
IsBadHeadOf given (Some (view name cols rows)) = ⊥
IsBadHeadOf given (Some (audit name)) = IsBadHead given.left

-- ---- the shelf

-- a shelf as a command finds it, the name of its file being selected, and the file loaded as often as it was in the end
abbrev pub opened : (old new : ShelfState) → (name : List ℕ) → ShelfState
opened old new name = record old { selected = Some name; loads = new.loads }

-- how often a file is loaded from at most: once for each byte that is asked for, which is one more than a file may have
abbrev pub most_loads : ℕ
most_loads = 2 ^ 31

abbrev pub LoadsFew : (old new : ShelfState) → Type 0
LoadsFew old new = new.loads ≤ old.loads + most_loads

-- every name but that of the command's file stays, at each moment; without a command every name does
abbrev pub OtherNamesStay : (old new : ShelfState) → Option Asked → Type 0
OtherNamesStay old new command = (other : List ℕ) → (option_map name_of command ≡ Some other → ⊥)
    → Between old.disk new.disk (λ before after. StaysThrough before after other)

-- Nothing was saved: under each name a read gives and a crash leaves what they did, at each moment.
pub record IsUntouched (old new : ShelfState) : Type 0 where
  pub contents : read_at new.disk ≡ read_at old.disk
  pub quiet : Between old.disk new.disk IsQuiet
  pub saving : new.saving ≡ old.saving

-- ---- what is written

-- the report of a document within the limits, which the file holds, where its content is told
pub record IsReport (text : Document → List ℕ) (content : Option Content) (out : List ℕ) : Type 0 where
  pub document : Document
  pub held : IfSome content (λ c. HoldsDocument c document)
  pub within : IsDocument document
  pub same : out ≡ text document

-- A legal history of a document within the limits, as are all its versions, which the file held, where that is told, and the shelf
-- after its saves. Where none of these failed, the file is that of the last one that was acknowledged, or the old one.
pub record IsHistory (name : List ℕ) (old new : ShelfState) (document : Document) (entries : List Entry) : Type 0 where
  pub held : IfSome (read_at old.disk name) (λ c. HoldsDocument c document)
  pub within : IsDocument document
  pub legal : IsLegal document entries
  pub versions : AreWithin document entries
  pub shelf : ShelfIsRight (opened old new name) document entries new
  pub file : save_faults entries ≡ 0 → Between old.disk new.disk (HasLastSaved name document entries)

-- The text of such a history whose calls are those of the script. Where no worker was asked for, these are all of session 0 and no
-- save failed, it is that of one session alone.
pub record IsReplies (given : Given) (name : List ℕ) (old new : ShelfState) (workers : ℕ) (HaveFailed : ℕ → Type 0) (out : List ℕ)
    : Type 0 where
  pub document : Document
  pub lists : List (List Line)
  pub entries : List Entry
  pub history : IsHistory name old new document entries
  pub read : HasLines given lists
  pub text : IsTextOf out document lists given.chests entries
  pub alone : workers ≡ 0 → AreOfFirst lists → save_faults entries ≡ 0 → Alone out document lists given.chests
  pub failed : HaveFailed (save_faults entries)

-- what the command writes when it comes to such an end, and the shelf then
abbrev pub IsOutput : Given → (old new : ShelfState) → Asked → Ending → (out : List ℕ) → Type 0
IsOutput given old new (render name) ending out = IsReport pam (read_at old.disk name) out × IsUntouched old new × HaveFailed ending 0
IsOutput given old new (info name with_all) ending out =
    IsReport (listing.line with_all) (read_at old.disk name) out × IsUntouched old new × HaveFailed ending 0
IsOutput given old new (make name seed) ending out =
    IsSummary (opened old new name) new (document seed) (made_script seed) (HaveFailed ending) out
IsOutput given old new (edit name workers) ending out = IsReplies given name old new workers (HaveFailed ending) out
IsOutput given old new (pack name with_plans) ending out =
    IsPacked (read_at old.disk name) (opened old new name) new with_plans out × HaveFailed ending 0
IsOutput given old new (flatten name) ending out = IsFlattened (read_at old.disk name) (opened old new name) new out × HaveFailed ending 0
IsOutput given old new (view name cols rows) ending out =
    IsViewed given.left (first_filters given) (read_at old.disk name) cols rows out × IsUntouched old new × HaveFailed ending 0
IsOutput given old new (audit name) ending out =
    IsAudited given.left given.chests (read_at old.disk name) ending out × IsUntouched old new

-- Such a history where memory ran out: its calls are the first of those of the script, or all.
pub record IsCutHistory (given : Given) (name : List ℕ) (old new : ShelfState) : Type 0 where
  pub document : Document
  pub lists : List (List Line)
  pub entries : List Entry
  pub history : IsHistory name old new document entries
  pub read : HasLines given lists
  pub front : IsFrontOf lists given.chests entries

-- The same of what is made.
pub record IsCutMaking (name : List ℕ) (old new : ShelfState) (seed : ℕ) : Type 0 where
  pub entries : List Entry
  pub history : IsMadeHistory (opened old new name) new (document seed) entries
  pub front : IsFrontOf (made_script seed) [] entries

-- The shelf where memory ran out: as before, or after a history of the first calls. So each file that a crash might leave is the old
-- one, or holds a version of that history which is saved there.
abbrev pub MayHaveSaved : Given → (old new : ShelfState) → Asked → Type 0
MayHaveSaved given old new (render name) = IsUntouched old new
MayHaveSaved given old new (info name with_all) = IsUntouched old new
MayHaveSaved given old new (make name seed) = IsUntouched old new ⊎ IsCutMaking name old new seed
MayHaveSaved given old new (edit name workers) = IsUntouched old new ⊎ IsCutHistory given name old new
MayHaveSaved given old new (pack name with_plans) = IsUntouched old new
MayHaveSaved given old new (flatten name) = IsUntouched old new
MayHaveSaved given old new (view name cols rows) = IsUntouched old new
MayHaveSaved given old new (audit name) = IsUntouched old new

-- the same of any words
abbrev pub MaySave : Given → (old new : ShelfState) → Option Asked → Type 0
MaySave given old new None = IsUntouched old new
MaySave given old new (Some command) = MayHaveSaved given old new command

-- the shelf where a fault of it stopped the command: as before, or after a part of the one save of a command, or of the first of what
-- is made
abbrev pub FailsAtShelf : (old new : ShelfState) → Asked → Type 0
FailsAtShelf old new (render name) = IsUntouched old new
FailsAtShelf old new (info name with_all) = IsUntouched old new
FailsAtShelf old new (make name seed) = IsUntouched old new ⊎ FailsAtFirst (opened old new name) new (document seed)
FailsAtShelf old new (edit name workers) = IsUntouched old new
FailsAtShelf old new (pack name with_plans) = IsUntouched old new ⊎ MayBePacked (read_at old.disk name) (opened old new name) new
FailsAtShelf old new (flatten name) = IsUntouched old new ⊎ MayBeFlattened (read_at old.disk name) (opened old new name) new
FailsAtShelf old new (view name cols rows) = IsUntouched old new
FailsAtShelf old new (audit name) = IsUntouched old new

module _ {K : Type 0} (held : K → Option (List ℕ)) (faults : K → ℕ) where
  -- the sink was left as it was
  abbrev pub Keeps : (old new : K) → Type 0
  Keeps old new = (held new ≡ held old) × (faults new ≡ faults old)

  -- all of such an output was written
  abbrev pub WritesSome : (IsOut : List ℕ → Type 0) → (old new : K) → Type 0
  WritesSome IsOut old new = (out : List ℕ) × IsOut out × WritesAll held faults old new out

  -- a fault of the sink came while such an output was written
  abbrev pub WritesFront : (IsOut : List ℕ → Type 0) → (old new : K) → Type 0
  WritesFront IsOut old new = (out : List ℕ) × IsOut out × WritesPart held faults old new out

  -- what is written and what was saved; where a command stops before its end nothing is, and a rejection is the one that is written
  abbrev pub Comes : (IsOut : Ending → List ℕ → Type 0) → (Untouched Failed Saved : Type 0) → (old new : K)
      → Result (Unit {0}) Stopped → Type 0
  Comes IsOut Untouched Failed Saved old new (Ok x) = WritesSome (IsOut well) old new
  Comes IsOut Untouched Failed Saved old new (Err SaveFault) = WritesSome (IsOut unsaved) old new
  Comes IsOut Untouched Failed Saved old new (Err (Rejected why)) =
      WritesSome (λ out. IsOut rejected out × (out ≡ rejection_line why)) old new
  Comes IsOut Untouched Failed Saved old new (Err SinkFault) = WritesFront (IsOut in_part) old new
  Comes IsOut Untouched Failed Saved old new (Err Memory) = Keeps old new × Saved
  Comes IsOut Untouched Failed Saved old new (Err SourceFault) = Keeps old new × Untouched
  Comes IsOut Untouched Failed Saved old new (Err (BadLine bad)) = Keeps old new × Untouched
  Comes IsOut Untouched Failed Saved old new (Err BadHead) = Keeps old new × Untouched
  Comes IsOut Untouched Failed Saved old new (Err ShelfFault) = Keeps old new × Failed
  Comes IsOut Untouched Failed Saved old new (Err (Refused why)) = Keeps old new × Untouched
  Comes IsOut Untouched Failed Saved old new (Err (NotFlattened why)) = Keeps old new × Untouched

  -- so does this command
  abbrev pub ComesTo : Given → (before after : ShelfState) → Asked → (old new : K) → Result (Unit {0}) Stopped → Type 0
  ComesTo given before after command old new result =
      Comes (IsOutput given before after command) (IsUntouched before after) (FailsAtShelf before after command)
      (MayHaveSaved given before after command) old new result

-- ---- why a command stopped

-- whose fault stopped the command
pub data FaultOf : Type 0 where
  of_source : FaultOf
  of_shelf : FaultOf
  of_neither : FaultOf

abbrev pub fault_of : {A : Type 0} → Result A Stopped → FaultOf
fault_of (Ok a) = of_neither
fault_of (Err SourceFault) = of_source
fault_of (Err BadHead) = of_neither
fault_of (Err (BadLine bad)) = of_neither
fault_of (Err ShelfFault) = of_shelf
fault_of (Err (Refused why)) = of_neither
fault_of (Err (NotFlattened why)) = of_neither
fault_of (Err SaveFault) = of_neither
fault_of (Err (Rejected why)) = of_neither
fault_of (Err SinkFault) = of_neither
fault_of (Err Memory) = of_neither

abbrev pub IfSource : FaultOf → (then_so else_so : Type 0) → Type 0
IfSource of_source then_so else_so = then_so
IfSource of_shelf then_so else_so = else_so
IfSource of_neither then_so else_so = else_so

abbrev pub IfShelf : FaultOf → (then_so else_so : Type 0) → Type 0
IfShelf of_source then_so else_so = else_so
IfShelf of_shelf then_so else_so = then_so
IfShelf of_neither then_so else_so = else_so

-- the source's faults rise only where they stop the command
abbrev pub SourceCause : {A : Type 0} → (before after : ℕ) → Result A Stopped → Type 0
SourceCause before after result = IfSource (fault_of result) (Rose before after) (after ≡ before)

-- the shelf's reading faults rise only where they stop the command
abbrev pub ShelfCause : {A : Type 0} → (before after : ℕ) → Result A Stopped → Type 0
ShelfCause before after result = IfShelf (fault_of result) (Rose before after) (after ≡ before)

-- the faults rose that may stop the command: those of reading, and of saving for the one save of a command, or the first of what is
-- made
abbrev pub FaultsRose : (before after : ShelfState) → Asked → Type 0
FaultsRose before after (render name) = Rose before.reading after.reading
FaultsRose before after (info name with_all) = Rose before.reading after.reading
FaultsRose before after (make name seed) = Rose before.reading after.reading ⊎ Rose before.saving after.saving
FaultsRose before after (edit name workers) = Rose before.reading after.reading
FaultsRose before after (pack name with_plans) = Rose before.reading after.reading ⊎ Rose before.saving after.saving
FaultsRose before after (flatten name) = Rose before.reading after.reading ⊎ Rose before.saving after.saving
FaultsRose before after (view name cols rows) = Rose before.reading after.reading
FaultsRose before after (audit name) = Rose before.reading after.reading

-- the same of a command; the reading faults stay where none stops it
abbrev pub ShelfCauseOf : (before after : ShelfState) → Asked → Result (Unit {0}) Stopped → Type 0
ShelfCauseOf before after command result =
    IfShelf (fault_of result) (FaultsRose before after command) (after.reading ≡ before.reading)

-- the script of an edit, a view or an audit is in its grammar, and that of an audit stands behind a head
abbrev pub InGrammar : Given → Option Asked → Type 0
InGrammar given None = Unit {0}
InGrammar given (Some (edit name workers)) = IsScript given
InGrammar given (Some (render name)) = Unit {0}
InGrammar given (Some (info name with_all)) = Unit {0}
InGrammar given (Some (make name seed)) = Unit {0}
InGrammar given (Some (pack name with_plans)) = Unit {0}
InGrammar given (Some (flatten name)) = Unit {0}
InGrammar given (Some (view name cols rows)) = IsViewScript given.left (first_filters given)
InGrammar given (Some (audit name)) = IsAuditScript given.left given.chests

-- how often a source is read for a script at most: as often as a script may have bytes, and once more
abbrev pub most_reads : ℕ
most_reads = MAX_SCRIPT_BYTES + 1

-- and for an audit, with the script and the output
abbrev pub most_audit_reads : ℕ
most_audit_reads = MAX_SOURCE_BYTES + 1

module _ {S : Type 0} (left : S → Option (List ℕ)) (faults reads : S → ℕ) where
  -- the source was left as it was, and not read
  abbrev pub Leaves : (old new : S) → Type 0
  Leaves old new = (left new ≡ left old) × (faults new ≡ faults old) × (reads new ≡ reads old)

  -- the first bytes that the source has left were taken: so many at most, in so many reads at most
  abbrev pub TakesWithin : (most : ℕ) → (old new : S) → Type 0
  TakesWithin most old new =
      ((bytes : List ℕ) × (left old ≡ led_by bytes (left new)) × (length bytes ≤ most)) × (reads new ≤ reads old + most)

  -- as many as for a script
  abbrev pub TakesFront : (old new : S) → Type 0
  TakesFront old new = TakesWithin most_reads old new

  -- an edit, a view and an audit take the first bytes that the source has left
  abbrev pub Takes : (old new : S) → Option Asked → Type 0
  Takes old new None = Leaves old new
  Takes old new (Some (edit name workers)) = TakesFront old new
  Takes old new (Some (render name)) = Leaves old new
  Takes old new (Some (info name with_all)) = Leaves old new
  Takes old new (Some (make name seed)) = Leaves old new
  Takes old new (Some (pack name with_plans)) = Leaves old new
  Takes old new (Some (flatten name)) = Leaves old new
  Takes old new (Some (view name cols rows)) = TakesFront old new
  Takes old new (Some (audit name)) = TakesWithin most_audit_reads old new

-- nothing is left of the source, unless it failed, its head or a line is refused, or memory ran out
abbrev pub ReadsToEnd : (left : Option (List ℕ)) → Result (Unit {0}) Stopped → Type 0
ReadsToEnd left (Ok x) = IsEnded left
ReadsToEnd left (Err SourceFault) = Unit {0}
ReadsToEnd left (Err (BadLine bad)) = Unit {0}
ReadsToEnd left (Err BadHead) = Unit {0}
ReadsToEnd left (Err ShelfFault) = IsEnded left
ReadsToEnd left (Err (Refused why)) = IsEnded left
ReadsToEnd left (Err (NotFlattened why)) = IsEnded left
ReadsToEnd left (Err SaveFault) = IsEnded left
ReadsToEnd left (Err (Rejected why)) = IsEnded left
ReadsToEnd left (Err SinkFault) = IsEnded left
ReadsToEnd left (Err Memory) = Unit {0}

-- ---- how it is told

-- usage, bad head or line, refused, source fault or not made flat: nothing was played
abbrev pub StopsBefore : (status : ℕ) → Type 0
StopsBefore status = IsTrue (list_any (λ n. n == status) (2 ∷ 3 ∷ 4 ∷ 5 ∷ 9 ∷ []))

-- done, refused, shelf fault or a save that failed, sink fault, rejected: a script was read
abbrev pub ComesAfterScript : (status : ℕ) → Type 0
ComesAfterScript status = IsTrue (list_any (λ n. n == status) (0 ∷ 4 ∷ 6 ∷ 7 ∷ 10 ∷ []))

-- done, usage, bad head or line, refused, source fault, shelf fault or a save that failed, sink fault, memory, not made flat, rejected
abbrev pub IsStatus : (status : ℕ) → Type 0
IsStatus status = IsTrue (list_any (λ n. n == status) (0 ∷ 2 ∷ 3 ∷ 4 ∷ 5 ∷ 6 ∷ 7 ∷ 8 ∷ 9 ∷ 10 ∷ []))

module _ {K : Type 0} (held : K → Option (List ℕ)) (faults : K → ℕ) where
  -- all is written, no save failed, and what is audited is accepted
  abbrev pub ComesWell : Given → (before after : ShelfState) → Option Asked → (old new : K) → Type 0
  ComesWell given before after None old new = ⊥
  ComesWell given before after (Some command) old new =
      WritesSome held faults (IsOutput given before after command well) old new

  -- the file could not be read, or the one save of a command, or the first of what is made, failed, which is told; or all is written,
  -- and a save failed
  abbrev pub ShelfFails : Given → (before after : ShelfState) → Option Asked → (old new : K) → Type 0
  ShelfFails given before after None old new = ⊥
  ShelfFails given before after (Some command) old new =
      (FaultsRose before after command × FailsAtShelf before after command
      × WritesLine held faults old new (stop_line shelf_fault))
      ⊎ ((after.reading ≡ before.reading)
      × WritesSome held faults (IsOutput given before after command unsaved) old new)

  -- a fault of the sink came while all was written
  abbrev pub WritesInPart : Given → (before after : ShelfState) → Option Asked → (old new : K) → Type 0
  WritesInPart given before after None old new = ⊥
  WritesInPart given before after (Some command) old new =
      WritesFront held faults (IsOutput given before after command in_part) old new

  -- all is written, and what is audited is rejected
  abbrev pub WritesRejection : Given → (before after : ShelfState) → Option Asked → (old new : K) → Type 0
  WritesRejection given before after None old new = ⊥
  WritesRejection given before after (Some command) old new =
      WritesSome held faults (IsOutput given before after command rejected) old new

  -- the head of the source is refused, or a line of its script, and that is told
  abbrev pub RefusesSource : Given → Option Asked → (old new : K) → Type 0
  RefusesSource given asked old new =
      (IsBadHeadOf given asked × WritesLine held faults old new (stop_line bad_head))
      ⊎ ((number : ℕ) × IsBadLineOf given asked number × WritesLine held faults old new (stop_line (bad_line number)))

  -- the stop is told, with its status
  abbrev pub WritesStopOf : (old new : K) → Stop → (status : ℕ) → Type 0
  WritesStopOf old new stop status = (status ≡ stop_status stop) × WritesLine held faults old new (stop_line stop)

  -- so it is, unless memory ran out for the line
  abbrev pub WritesLineOr : (old new : K) → Stop → (status : ℕ) → Type 0
  WritesLineOr old new stop status = WritesStopOf old new stop status ⊎ ((status ≡ 8) × Keeps held faults old new)

  -- what is told of a stop, and the status
  abbrev pub WritesStop : (old new : K) → Stopped → (status : ℕ) → Type 0
  WritesStop old new SourceFault status = WritesStopOf old new source_fault status
  WritesStop old new BadHead status = WritesStopOf old new bad_head status
  WritesStop old new (BadLine bad) status = WritesLineOr old new (bad_line bad.line) status
  WritesStop old new ShelfFault status = WritesStopOf old new shelf_fault status
  WritesStop old new (Refused why) status = WritesLineOr old new (refused why) status
  WritesStop old new (NotFlattened why) status = WritesLineOr old new (flat_refused why) status
  WritesStop old new SaveFault status = (status ≡ 6) × (new ≡ old)
  WritesStop old new (Rejected why) status = (status ≡ 10) × (new ≡ old)
  WritesStop old new SinkFault status = (status ≡ 7) × (new ≡ old)
  WritesStop old new Memory status = (status ≡ 8) × (new ≡ old)
