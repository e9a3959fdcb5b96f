-- A script: the lines of each session, or the first line that is refused.
use Rattle.std.specs.Prelude.{ℕ, suc, ◌+◌, ◌^◌, Bool, true, false, ◌&&◌, not, ◌==◌, min, nat_lt, nat_le, if◌then◌else◌}
use Rattle.std.specs.Prelude.{List, [], ◌∷◌, ◌++◌, length, map, take, count_by, Option, Some, None, option_map, Result}
use Rattle.std.specs.Prelude.{Ok, Err, slice_get, unwrap_or}
use Rattle.spec_document.specs.Rect.{count_from}
use Rattle.std.specs.List.{list_any}
use Rattle.spec_edit.specs.Edit.{Edit, slot_of}
use Rattle.spec_edit.specs.Effect.{changed_at}
use Rattle.spec_history.specs.Machine as machine
use Rattle.spec_history.specs.Machine.{Call}
use Rattle.spec_history.specs.declared.TheConstants.{MAX_EDITS}
use Rattle.spec_script.specs.declared.TheConstants.{MAX_SCRIPT_BYTES, MAX_CALLS}
use Rattle.spec_script.specs.Words.{◌>>=◌, lines_of, words_of}
use Rattle.spec_script.specs.Commands.{Command, Asked, an_edit, begins, ends, a_call, saves, forgets, command_of}

-- a session's own list, and none past the last one
abbrev pub list_at : {A : Type 0} → List (List A) → (session : ℕ) → List A
list_at lists session = unwrap_or (slice_get lists session) []

-- what a session does, line by line
pub data Line : Type 0 where
  call : Call → Line
  save : Line
  forget : (slot : ℕ) → Line

-- a group that is begun: the line of its begin, its guard, and its edits so far
pub record Open : Type 0 where
  pub line : ℕ
  pub guard : Option ℕ
  pub edits : List Edit

-- a session so far: its lines, the group that it is in, how many filters it was given, and those that it dropped
pub record Session : Type 0 where
  pub lines : List Line
  pub open_group : Option Open
  pub filters : ℕ
  pub dropped : List ℕ

-- the script so far, and how many calls it has
pub record Parsed : Type 0 where
  pub sessions : List Session
  pub calls : ℕ

-- whether the filter is there: one of those that were given, and not dropped
abbrev pub is_there : (filters : ℕ) (dropped : List ℕ) (slot : ℕ) → Bool
is_there filters dropped slot = nat_lt slot filters && not (list_any (λ d. d == slot) dropped)

abbrev pub finds_slot : (filters : ℕ) (dropped : List ℕ) → Option ℕ → Bool
finds_slot filters dropped None = true
finds_slot filters dropped (Some slot) = is_there filters dropped slot

-- a filter edit needs its filter
abbrev pub finds_filter : (filters : ℕ) (dropped : List ℕ) → Edit → Bool
finds_filter filters dropped edit = finds_slot filters dropped (slot_of edit)

abbrev pub has_filter : Session → (slot : ℕ) → Bool
has_filter s slot = is_there s.filters s.dropped slot

abbrev pub has_its_filter : Session → Edit → Bool
has_its_filter s edit = finds_filter s.filters s.dropped edit

-- a session's step, and how many calls it begins
pub record Taken : Type 0 where
  pub session : Session
  pub begun : ℕ

abbrev pub takes : Session → (begun : ℕ) → Option Taken
takes s begun = Some (record { session = s; begun = begun })

abbrev pub add_line : Session → Line → Option Taken
add_line s line = takes (record s { lines = s.lines ++ line ∷ [] }) 1

-- a command outside a group
abbrev pub take_outside : (number : ℕ) → Session → Command → Option Taken
take_outside number s (an_edit e) = if has_its_filter s e then add_line s (call (machine.edit None (e ∷ []))) else None
take_outside number s (begins guard) =
    takes (record s { open_group = Some (record { line = number; guard = guard; edits = [] }) }) 1
take_outside number s ends = None
take_outside number s (a_call c) = add_line s (call c)
take_outside number s saves = add_line s save
take_outside number s (forgets slot) =
    if has_filter s slot then takes (record s { lines = s.lines ++ forget slot ∷ []; dropped = s.dropped ++ slot ∷ [] }) 0 else None

-- a command inside a group: only its edits, as many as a group may have, and its end after at least one
abbrev pub take_inside : Open → Session → Command → Option Taken
take_inside o s (an_edit e) =
    if has_its_filter s e && nat_lt (length o.edits) MAX_EDITS
    then takes (record s { open_group = Some (record o { edits = o.edits ++ e ∷ [] }) }) 0 else None
take_inside o s ends =
    if nat_lt 0 (length o.edits)
    then takes (record s { lines = s.lines ++ call (machine.edit o.guard o.edits) ∷ []; open_group = None }) 0 else None
take_inside o s (begins guard) = None
take_inside o s (a_call c) = None
take_inside o s saves = None
take_inside o s (forgets slot) = None

abbrev pub take_command : (number : ℕ) → Session → Option Open → Command → Option Taken
take_command number s None command = take_outside number s command
take_command number s (Some o) command = take_inside o s command

abbrev pub put_session : Parsed → (session : ℕ) → Taken → Option Parsed
put_session p session t =
    if nat_le (p.calls + t.begun) MAX_CALLS
    then Some (record { sessions = changed_at session (λ _. t.session) p.sessions; calls = p.calls + t.begun }) else None

abbrev pub is_skipped : List ℕ → Bool
is_skipped [] = true
is_skipped (b ∷ bytes) = b == 35

-- what a line asks for, done
abbrev pub take_by : (number : ℕ) → Asked → Parsed → Option Parsed
take_by number asked p = do
  session ← slice_get p.sessions asked.session
  taken ← take_command number session session.open_group asked.command
  put_session p asked.session taken

-- words that ask for nothing are refused
abbrev pub take_asked : (number : ℕ) → List (List ℕ) → Parsed → Option Parsed
take_asked number words p = do
  asked ← command_of words
  take_by number asked p

-- one line
abbrev pub take_line : (number : ℕ) → List ℕ → Parsed → Option Parsed
take_line number line p = let taken = take_asked number (words_of line) p in if is_skipped line then Some p else taken

abbrev pub or_refused : {B : Type 0} → (number : ℕ) → Option Parsed → (Parsed → Result B ℕ) → Result B ℕ
or_refused number None rest = Err number
or_refused number (Some p) rest = rest p

-- the lines from a number on; the first that is refused
abbrev pub take_lines : (number : ℕ) → List (List ℕ) → Parsed → Result Parsed ℕ
take_lines number [] p = Ok p
take_lines number (line ∷ lines) p = or_refused number (take_line number line p) (λ q. take_lines (suc number) lines q)

abbrev pub least : Option ℕ → Option ℕ → Option ℕ
least None other = other
least (Some a) None = Some a
least (Some a) (Some b) = Some (min a b)

-- the least line of a begin that is never ended
abbrev pub never_ended : List Session → Option ℕ
never_ended [] = None
never_ended (s ∷ ss) = least (option_map (λ o. o.line) s.open_group) (never_ended ss)

abbrev pub ended : Option ℕ → List Session → Result (List (List Line)) ℕ
ended None ss = Ok (map (λ s. s.lines) ss)
ended (Some line) ss = Err line

abbrev pub closed : Result Parsed ℕ → Result (List (List Line)) ℕ
closed (Err line) = Err line
closed (Ok p) = ended (never_ended p.sessions) p.sessions

abbrev pub blank : (filters : ℕ) → Session
blank filters = record { lines = []; open_group = None; filters = filters; dropped = [] }

-- the number of the line that a byte stands in
abbrev pub line_of_byte : List ℕ → (byte : ℕ) → ℕ
line_of_byte text byte = 1 + count_by (λ b. b == 10) (take byte text)

-- the eight sessions before the first line; one past the end of chests has no filter
abbrev pub start : (chests : List ℕ) → Parsed
start chests = record { sessions = map (λ s. blank (unwrap_or (slice_get chests s) 0)) (count_from 0 8); calls = 0 }

-- The lines of each of the eight sessions, or the refused line, where the lines of the text are taken as `as_taken` says. chests are the
-- numbers of the sessions' filters. A text that is too long is refused whatever is in it.
abbrev pub script_of : (as_taken : List (List ℕ) → List (List ℕ)) → (text : List ℕ) → (chests : List ℕ) → Result (List (List Line)) ℕ
script_of as_taken text chests =
    let parsed = closed (take_lines 1 (as_taken (lines_of text)) (start chests)) in
    if nat_le (length text) MAX_SCRIPT_BYTES then parsed else Err (line_of_byte text MAX_SCRIPT_BYTES)

-- a script, whose lines are taken as they are
abbrev pub script : (text : List ℕ) → (chests : List ℕ) → Result (List (List Line)) ℕ
script text chests = script_of (λ lines. lines) text chests

abbrev pub is_call : Line → Bool
is_call (call c) = true
is_call save = true
is_call (forget slot) = false
