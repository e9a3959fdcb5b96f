-- What each line of a talk asks for, line by line, and what becomes of a group in which a line is bad.
use Rattle.std.specs.Prelude.{ℕ, Bool, true, false, ◌&&◌, ◌||◌, nat_le, nat_lt, if◌then◌else◌, List, [], ◌∷◌, length, map, slice_set}
use Rattle.std.specs.Prelude.{Option, Some, None, slice_get, slice_index_or, option_and_then}
use Rattle.spec_document.specs.Rect.{count_from}
use Rattle.spec_edit.specs.Effect.{changed_at}
use Rattle.spec_script.specs.Words.{number_below, words_of}
use Rattle.spec_script.specs.Commands.{Command, Asked, an_edit, begins, ends, a_call, saves, forgets, command_of}
use Rattle.spec_script.specs.Script.{Line, Open, Session, Parsed, is_skipped, take_by, start}
use Rattle.spec_serve.specs.Windows.{Request, request_of}

-- what a line asks for: a line of its session's script that is whole now, or pixels, or a wait, or nothing yet; or it is bad
pub data Asks : Type 0 where
  plays : (session : ℕ) → Line → Asks
  requests : Request → Asks
  nothing : Asks
  bad : Asks

-- the groups that are open and the filters that are there, as in a script; the last bad line of each session, and the last that named
-- none, or 0
pub record Hearing : Type 0 where
  pub parsed : Parsed
  pub bad_lines : List ℕ
  pub bad_other : ℕ

abbrev pub start_hearing : (filters : List ℕ) → Hearing
start_hearing filters = record { parsed = start filters; bad_lines = map (λ s. 0) (count_from 0 8); bad_other = 0 }

-- what was heard so far, and what the last line asks for
pub record Heard : Type 0 where
  pub asks : Asks
  pub hearing : Hearing

-- ---- a line of a script

abbrev pub asks_of : (session : ℕ) → Option Line → Asks
asks_of session None = nothing
asks_of session (Some line) = plays session line

-- the line of a session that is whole now, if any
abbrev pub whole_line : Parsed → (session : ℕ) → Option Line
whole_line p session = option_and_then (λ s. slice_get s.lines 0) (slice_get p.sessions session)

-- nothing is kept of what was asked, and no calls are counted: a talk has no end of its own
abbrev pub emptied : (session : ℕ) → Parsed → Parsed
emptied session p = record { sessions = changed_at session (λ s. record s { lines = [] }) p.sessions; calls = 0 }

-- ---- groups in which a line was bad

abbrev pub group_at : Parsed → (session : ℕ) → Option Open
group_at p session = option_and_then (λ s. s.open_group) (slice_get p.sessions session)

-- the session that the words of a line name
abbrev pub named_by : List (List ℕ) → Option ℕ
named_by [] = None
named_by (s ∷ words) = number_below 8 s

-- a bad line is one of its session, or of all where it names none
abbrev pub bad_at : (number : ℕ) → Option ℕ → Hearing → Hearing
bad_at number (Some session) h = record h { bad_lines = slice_set h.bad_lines session number }
bad_at number None h = record h { bad_other = number }

abbrev pub refused : (number : ℕ) → List (List ℕ) → Hearing → Heard
refused number words h = record { asks = bad; hearing = bad_at number (named_by words) h }

abbrev pub is_end : Command → Bool
is_end (an_edit e) = false
is_end (begins guard) = false
is_end ends = true
is_end (a_call c) = false
is_end saves = false
is_end (forgets slot) = false

abbrev pub has_no_edits : Option Open → Bool
has_no_edits None = false
has_no_edits (Some o) = nat_le (length o.edits) 0

-- an open group that cannot be made: a line of its session, or of none, was bad behind its begin, or it has no edits
abbrev pub is_unmade : (bad_line bad_other : ℕ) → Option Open → Bool
is_unmade bad_line bad_other None = false
is_unmade bad_line bad_other (Some o) = nat_lt o.line bad_line || (nat_lt o.line bad_other || nat_le (length o.edits) 0)

abbrev pub cannot_end : (session : ℕ) → Hearing → Option Open → Bool
cannot_end session h o = is_unmade (slice_index_or h.bad_lines session 0) h.bad_other o

abbrev pub drops : Hearing → Asked → Bool
drops h asked = is_end asked.command && cannot_end asked.session h (group_at h.parsed asked.session)

-- its end drops it
abbrev pub without_group : (session : ℕ) → Parsed → Parsed
without_group session p = record p { sessions = changed_at session (λ s. record s { open_group = None }) p.sessions }

abbrev pub dropped : (session : ℕ) → Hearing → Heard
dropped session h = record { asks = bad; hearing = record h { parsed = without_group session h.parsed } }

-- ---- one line

abbrev pub taken : (number : ℕ) → List (List ℕ) → Hearing → (session : ℕ) → Option Parsed → Heard
taken number words h session None = refused number words h
taken number words h session (Some p) =
    record { asks = asks_of session (whole_line p session); hearing = record h { parsed = emptied session p } }

abbrev pub scripted : (number : ℕ) → List (List ℕ) → Hearing → Option Asked → Heard
scripted number words h None = refused number words h
scripted number words h (Some asked) =
    let by_script = taken number words h asked.session (take_by number asked h.parsed) in
    if drops h asked then dropped asked.session h else by_script

-- a line of this number that is no request; a comment and an empty line ask for nothing
abbrev pub hear_script : (number : ℕ) → List ℕ → Hearing → Heard
hear_script number line h =
    let words = words_of line in
    let asked = scripted number words h (command_of words) in
    if is_skipped line then record { asks = nothing; hearing = h } else asked

abbrev pub unless_request : Hearing → Option Request → (else_is : Heard) → Heard
unless_request h None else_is = else_is
unless_request h (Some r) else_is = record { asks = requests r; hearing = h }

-- a line of this number
abbrev pub hear : (number : ℕ) → List ℕ → Hearing → Heard
hear number line h = unless_request h (request_of (words_of line)) (hear_script number line h)
