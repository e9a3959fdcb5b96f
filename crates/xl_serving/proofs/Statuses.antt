-- What is told at each status.
use Rattle.std.proofs.Common.{◌≡◌, ◌≢◌, ◌⊎◌, inl, inr, ℕ, Bool, true, false, List, refl, ap, sym, subst, arith}
use Rattle.std.specs.Prelude.{Option, IfSome, Err}
use Rattle.spec_command.specs.Arguments.{Argument}
use Rattle.spec_command.specs.Ends as stop
use Rattle.spec_document.specs.Document.{Document}
use Rattle.spec_fields.specs.declared.ReadRefused.{ReadRefused}
use Rattle.spec_run.specs.Failed.{NoneFailed, SomeFailed, AnyFailed, WhetherFailed}
use Rattle.spec_saves.specs.Names.{save_faults}
use Rattle.xl_commands.specs.Files.{HasFault}
use Rattle.xl_commands.specs.Lines.{WritesLine}
use Rattle.xl_commands.specs.Outcome.{Given, Keeps, ShelfCause, WritesStop}
use Rattle.xl_commands.specs.Parts.{Loads}
use Rattle.xl_outcome.specs.declared.stopped.Stopped.{Stopped}
use Rattle.xl_outcome.specs.declared.stopped.Stopped.TheVariants as stopped
use Rattle.xl_ports.specs.Disk.{read_at}
use Rattle.xl_ports.specs.Faults.{Rose}
use Rattle.xl_ports.specs.Shelf.{selected_content}
use Rattle.xl_ports.specs.Sink.{WritesAll}
use Rattle.xl_ports.specs.State.{ShelfState}
use Rattle.xl_serve.specs.Causes.{HasEndCause}
use Rattle.xl_serve.specs.declared.ends.TalkEnd.{TalkEnd}
use Rattle.xl_serve.specs.declared.ends.TalkEnd.TheVariants.{Ended, TooLong, SourceFault, SinkFault, Memory, NotBegun}
use Rattle.xl_serving.specs.Served.{IsTalked, said_in, text_in, NoTalk, IsServed, Serves, WritesTalk, WritesTalkInPart, WritesSaid}
use Rattle.xl_serving.specs.Written.{is_closed, closed_status, IsWritten}

-- the status of words that are no command is none of these
pub not_usage : (status : ℕ) → IsServed status → status ≢ 2
not_usage status served = λ two. let bad : false ≡ true = subst IsServed two served in cc

unlike : false ≡ true → ⊥
unlike is = cc

module _ {K S : Type 0} (held : K → Option (List ℕ)) (faults : K → ℕ) (count : S → ℕ) (given : Given) (served : Option Argument)
    (before after : ShelfState) (was now : S) (old new : K) where
  abbrev Told : (status : ℕ) → Type 0
  Told status = Serves held faults count given served before after was now old new status

  abbrev Talked : TalkEnd → (ℕ → Type 0) → Type 0
  Talked end HaveFailed = WritesTalk held faults count given served before after was now old new end HaveFailed

  -- ---- at each status

  done_told : Talked Ended NoneFailed → Told 0
  done_told talk = record {
    statuses = refl;
    done = λ is. talk;
    line_too_long = λ is. absurd (omega (arith, is));
    file_refused = λ is. absurd (omega (arith, is));
    source_failed = λ is. absurd (omega (arith, is));
    shelf_failed = λ is. absurd (omega (arith, is));
    sink_failed = λ is. absurd (omega (arith, is));
    no_memory = λ is. absurd (omega (arith, is));
  }

  long_told : (number : ℕ) → Talked (TooLong number) AnyFailed → Told 3
  long_told number talk = record {
    statuses = refl;
    done = λ is. absurd (omega (arith, is));
    line_too_long = λ is. (number, talk);
    file_refused = λ is. absurd (omega (arith, is));
    source_failed = λ is. absurd (omega (arith, is));
    shelf_failed = λ is. absurd (omega (arith, is));
    sink_failed = λ is. absurd (omega (arith, is));
    no_memory = λ is. absurd (omega (arith, is));
  }

  refused_told : (why : ReadRefused) → IfSome (selected_content served (read_at before.disk)) (λ c. HasFault c why)
      → WritesLine held faults old new (stop.stop_line (stop.refused why)) → NoTalk before after was now → Told 4
  refused_told why fault line none = record {
    statuses = refl;
    done = λ is. absurd (omega (arith, is));
    line_too_long = λ is. absurd (omega (arith, is));
    file_refused = λ is. (why, fault, line, none);
    source_failed = λ is. absurd (omega (arith, is));
    shelf_failed = λ is. absurd (omega (arith, is));
    sink_failed = λ is. absurd (omega (arith, is));
    no_memory = λ is. absurd (omega (arith, is));
  }

  source_told : Talked SourceFault AnyFailed → Told 5
  source_told talk = record {
    statuses = refl;
    done = λ is. absurd (omega (arith, is));
    line_too_long = λ is. absurd (omega (arith, is));
    file_refused = λ is. absurd (omega (arith, is));
    source_failed = λ is. talk;
    shelf_failed = λ is. absurd (omega (arith, is));
    sink_failed = λ is. absurd (omega (arith, is));
    no_memory = λ is. absurd (omega (arith, is));
  }

  shelf_told : (Rose before.reading after.reading × WritesLine held faults old new (stop.stop_line stop.shelf_fault)
      × NoTalk before after was now) ⊎ Talked Ended SomeFailed → Told 6
  shelf_told why = record {
    statuses = refl;
    done = λ is. absurd (omega (arith, is));
    line_too_long = λ is. absurd (omega (arith, is));
    file_refused = λ is. absurd (omega (arith, is));
    source_failed = λ is. absurd (omega (arith, is));
    shelf_failed = λ is. why;
    sink_failed = λ is. absurd (omega (arith, is));
    no_memory = λ is. absurd (omega (arith, is));
  }

  sink_told : (end : TalkEnd) → WritesTalkInPart held faults count given served before after was now old new end → Told 7
  sink_told end part = record {
    statuses = refl;
    done = λ is. absurd (omega (arith, is));
    line_too_long = λ is. absurd (omega (arith, is));
    file_refused = λ is. absurd (omega (arith, is));
    source_failed = λ is. absurd (omega (arith, is));
    shelf_failed = λ is. absurd (omega (arith, is));
    sink_failed = λ is. (end, part);
    no_memory = λ is. absurd (omega (arith, is));
  }

  memory_told : (Keeps held faults old new × NoTalk before after was now)
      ⊎ ((end : TalkEnd) × WritesSaid held faults count given served before after was now old new end) → Told 8
  memory_told why = record {
    statuses = refl;
    done = λ is. absurd (omega (arith, is));
    line_too_long = λ is. absurd (omega (arith, is));
    file_refused = λ is. absurd (omega (arith, is));
    source_failed = λ is. absurd (omega (arith, is));
    shelf_failed = λ is. absurd (omega (arith, is));
    sink_failed = λ is. absurd (omega (arith, is));
    no_memory = λ is. why;
  }

  -- ---- before a talk

  -- without memory
  pub none_told : (status : ℕ) → status ≡ 8 → Keeps held faults old new → NoTalk before after was now → Told status
  none_told status is keeps none = subst Told (sym is) (memory_told (inl (keeps, none)))

  -- by the file
  pub unread_told : (why : Stopped) (status : ℕ)
      → Loads (selected_content served (read_at before.disk)) (Err why) → ShelfCause {A = Document} before.reading after.reading (Err why)
      → WritesStop held faults old new why status → NoTalk before after was now → Told status
  unread_told stopped.SourceFault status loads cause told none = absurd loads
  unread_told stopped.BadHead status loads cause told none = absurd loads
  unread_told (stopped.BadLine bad) status loads cause told none = absurd loads
  unread_told stopped.ShelfFault status loads cause told none = subst Told (sym told.0) (shelf_told (inl (cause, told.1, none)))
  unread_told (stopped.Refused why) status loads cause (inl told) none = subst Told (sym told.0) (refused_told why loads told.1 none)
  unread_told (stopped.Refused why) status loads cause (inr told) none = none_told status told.0 told.1 none
  unread_told (stopped.NotFlattened why) status loads cause told none = absurd loads
  unread_told stopped.SaveFault status loads cause told none = absurd loads
  unread_told (stopped.Rejected why) status loads cause told none = absurd loads
  unread_told stopped.SinkFault status loads cause told none = absurd loads
  unread_told stopped.Memory status loads cause told none =
      none_told status told.0 (ap held told.1, ap faults told.1) none

  -- ---- behind a talk

  done_talk : (t : IsTalked given served before after Ended) → NoneFailed (save_faults t.entries)
      → HasEndCause (count was) (count now) Ended → WritesAll held faults old new (text_in t) → Told 0
  done_talk t fails cause all = done_told (t, fails, cause, all)

  failed_talk : (t : IsTalked given served before after Ended) → SomeFailed (save_faults t.entries)
      → HasEndCause (count was) (count now) Ended → WritesAll held faults old new (text_in t) → Told 6
  failed_talk t fails cause all = shelf_told (inr (t, fails, cause, all))

  long_talk : (number : ℕ) (t : IsTalked given served before after (TooLong number))
      → HasEndCause (count was) (count now) (TooLong number) → WritesAll held faults old new (text_in t) → Told 3
  long_talk number t cause all = long_told number (t, tt, cause, all)

  source_talk : (t : IsTalked given served before after SourceFault) → HasEndCause (count was) (count now) SourceFault
      → WritesAll held faults old new (text_in t) → Told 5
  source_talk t cause all = source_told (t, tt, cause, all)

  closed_told : (end : TalkEnd) (failed : Bool) → is_closed end ≡ true → (t : IsTalked given served before after end)
      → WhetherFailed failed (save_faults t.entries) → HasEndCause (count was) (count now) end
      → WritesAll held faults old new (text_in t) → Told (closed_status failed end)
  closed_told Ended true closed t fails cause all = failed_talk t fails cause all
  closed_told Ended false closed t fails cause all = done_talk t fails cause all
  closed_told (TooLong number) failed closed t fails cause all = long_talk number t cause all
  closed_told SourceFault failed closed t fails cause all = source_talk t cause all
  closed_told SinkFault failed closed t fails cause all = absurd (unlike closed)
  closed_told Memory failed closed t fails cause all = absurd (unlike closed)
  closed_told NotBegun failed closed t fails cause all = absurd (unlike closed)

  pub talk_told : (end : TalkEnd) (failed : Bool) (t : IsTalked given served before after end) (status : ℕ)
      → WhetherFailed failed (save_faults t.entries) → HasEndCause (count was) (count now) end
      → IsWritten held faults old new (said_in t) t.entries end failed status → Told status
  talk_told end failed t status fails cause (inl whole) =
      subst Told (sym whole.1) (closed_told end failed whole.0 t fails cause whole.2)
  talk_told end failed t status fails cause (inr (inl part)) = subst Told (sym part.0) (sink_told end (t, cause, part.1))
  talk_told end failed t status fails cause (inr (inr line)) = subst Told (sym line.0) (memory_told (inr (end, (t, cause, line.1))))
