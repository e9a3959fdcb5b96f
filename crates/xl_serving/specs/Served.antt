-- What serving a file comes to, by the status.
use Rattle.std.specs.Prelude.{◌≡◌, ◌≢◌, ◌⊎◌, ◌==◌, ℕ, List, [], ◌∷◌, ◌++◌, Option, Some, None, IfSome, IsTrue}
use Rattle.std.specs.List.{list_any}
use Rattle.spec_command.specs.Arguments.{Argument}
use Rattle.spec_command.specs.Ends as stop
use Rattle.spec_document.specs.Document.{Document}
use Rattle.spec_fields.specs.declared.ReadRefused.{ReadRefused}
use Rattle.spec_history.specs.History.{Entry, replay}
use Rattle.spec_run.specs.Failed.{NoneFailed, SomeFailed, AnyFailed}
use Rattle.spec_saves.specs.Names.{save_faults}
use Rattle.spec_serve.specs.Said.{Said, all_said, entries_of, told_text}
use Rattle.spec_serve.specs.Talk.{IsTalk}
use Rattle.xl_commands.specs.Files.{HasFault}
use Rattle.xl_commands.specs.Lines.{WritesLine}
use Rattle.xl_commands.specs.Outcome.{Given, IsHistory, IsUntouched, Keeps, LoadsFew}
use Rattle.xl_ports.specs.Disk.{read_at, Between, StaysThrough}
use Rattle.xl_ports.specs.Faults.{Rose}
use Rattle.xl_ports.specs.Shelf.{selected_content}
use Rattle.xl_ports.specs.Sink.{WritesAll, WritesPart}
use Rattle.xl_ports.specs.State.{ShelfState}
use Rattle.xl_serve.specs.Causes.{HasEndCause}
use Rattle.xl_serve.specs.Talked.{AreFirst, StopsBy, AreSaidOf, closing}
use Rattle.xl_serve.specs.declared.ends.TalkEnd.{TalkEnd}
use Rattle.xl_serve.specs.declared.ends.TalkEnd.TheVariants.{Ended, TooLong, SourceFault}

-- ---- the talk and its file

-- A talk over the document that the file held, where that is told: what was said to which of the lines that the source had left, why
-- no further line was taken, and the history of what was said, after whose saves the file is. Each save that began has ended.
pub record IsTalked (given : Given) (served : Option Argument) (before after : ShelfState) (end : TalkEnd) : Type 0 where
  pub name : Argument
  pub asked : served ≡ Some name
  pub document : Document
  pub lines : List (List ℕ)
  pub turns : List (List Said)
  pub entries : List Entry
  pub talk : IsTalk document given.chests lines turns
  pub first : AreFirst lines given.left
  pub stops : StopsBy lines given.left end
  pub entered : AreSaidOf given.chests lines given.left (entries_of (all_said turns)) entries end
  pub history : IsHistory name before after document entries
  pub ended : (replay document entries).out ≡ None

module _ {given : Given} {served : Option Argument} {before after : ShelfState} {end : TalkEnd} where
  -- the text of all that was said
  abbrev pub said_in : IsTalked given served before after end → List ℕ
  said_in t = told_text t.document (all_said t.turns)

  -- with what stands behind it
  abbrev pub text_in : IsTalked given served before after end → List ℕ
  text_in t = said_in t ++ closing t.entries end

-- no talk began: nothing was saved, and the source was not read
pub record NoTalk {S : Type 0} (before after : ShelfState) (was now : S) : Type 0 where
  pub untouched : IsUntouched before after
  pub unread : now ≡ was

-- ---- what is written

module _ {K S : Type 0} (held : K → Option (List ℕ)) (faults : K → ℕ) (source_faults : S → ℕ) (given : Given)
    (served : Option Argument) (before after : ShelfState) (was now : S) (old new : K) where
  -- all of the text of a talk that ended so, of whose saves so many failed
  abbrev pub WritesTalk : TalkEnd → (HaveFailed : ℕ → Type 0) → Type 0
  WritesTalk end HaveFailed =
      (t : IsTalked given served before after end) × HaveFailed (save_faults t.entries)
      × HasEndCause (source_faults was) (source_faults now) end × WritesAll held faults old new (text_in t)

  -- a front of it, and a fault of the sink came
  abbrev pub WritesTalkInPart : TalkEnd → Type 0
  WritesTalkInPart end =
      (t : IsTalked given served before after end) × HasEndCause (source_faults was) (source_faults now) end
      × WritesPart held faults old new (text_in t)

  -- all that was said, or a front of it where the sink failed, and nothing behind it
  abbrev pub WritesSaid : TalkEnd → Type 0
  WritesSaid end =
      (t : IsTalked given served before after end) × HasEndCause (source_faults was) (source_faults now) end
      × WritesLine held faults old new (said_in t)

-- done, a line is too long, refused, source fault, shelf fault or a save that failed, sink fault, memory
abbrev pub IsServed : (status : ℕ) → Type 0
IsServed status = IsTrue (list_any (λ n. n == status) (0 ∷ 3 ∷ 4 ∷ 5 ∷ 6 ∷ 7 ∷ 8 ∷ []))

-- What is written and what is saved, by the status. Where the file holds no document, or cannot be read, or memory runs out ahead of
-- the first line, no talk begins.
pub record Serves {K S : Type 0} (held : K → Option (List ℕ)) (faults : K → ℕ) (source_faults : S → ℕ) (given : Given)
    (served : Option Argument) (before after : ShelfState) (was now : S) (old new : K) (status : ℕ) : Type 0 where
  pub statuses : IsServed status
  pub done : status ≡ 0 → WritesTalk held faults source_faults given served before after was now old new Ended NoneFailed
  pub line_too_long : status ≡ 3 → (number : ℕ)
      × WritesTalk held faults source_faults given served before after was now old new (TooLong number) AnyFailed
  pub file_refused : status ≡ 4 → (why : ReadRefused)
      × IfSome (selected_content served (read_at before.disk)) (λ c. HasFault c why)
      × WritesLine held faults old new (stop.stop_line (stop.refused why)) × NoTalk before after was now
  pub source_failed : status ≡ 5 → WritesTalk held faults source_faults given served before after was now old new SourceFault AnyFailed
  pub shelf_failed : status ≡ 6
      → (Rose before.reading after.reading × WritesLine held faults old new (stop.stop_line stop.shelf_fault)
      × NoTalk before after was now)
      ⊎ WritesTalk held faults source_faults given served before after was now old new Ended SomeFailed
  pub sink_failed : status ≡ 7 → (end : TalkEnd)
      × WritesTalkInPart held faults source_faults given served before after was now old new end
  pub no_memory : status ≡ 8 → (Keeps held faults old new × NoTalk before after was now)
      ⊎ ((end : TalkEnd) × WritesSaid held faults source_faults given served before after was now old new end)

-- ---- what becomes of the shelf

-- Every name but that of the file stays, at each moment; the file is loaded from few times, its name is selected if any is, and the
-- reading faults rise only where they are told.
pub record ShelfGoes (served : Option Argument) (before after : ShelfState) (status : ℕ) : Type 0 where
  pub other_names : (other : List ℕ) → (served ≡ Some other → ⊥)
      → Between before.disk after.disk (λ one two. StaysThrough one two other)
  pub few_loads : LoadsFew before after
  pub selected : (after.selected ≡ before.selected) ⊎ (after.selected ≡ served)
  pub no_reading_fault : status ≢ 6 → after.reading ≡ before.reading
