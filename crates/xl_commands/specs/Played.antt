-- What is told of a run of sessions, and how it is written.
use Rattle.std.specs.Prelude.{◌≡◌, ℕ, true, false, List, [], Option, IfOk, Result, Ok, Err, string_bytes}
use Rattle.std.specs.declared.alloc.AllocError.{AllocError}
use Rattle.spec_document.specs.Document.{Document}
use Rattle.spec_generated.specs.Summary.{outcome, summary_of}
use Rattle.spec_history.specs.History.{Entry}
use Rattle.spec_history.specs.Kept.{IsLegal}
use Rattle.spec_run.specs.Failed.{WhetherFailed}
use Rattle.spec_run.specs.Fronts.{IsFrontOf}
use Rattle.spec_run.specs.Versions.{AreWithin}
use Rattle.spec_saves.specs.Names.{save_faults}
use Rattle.spec_saves.specs.Shelf.{ShelfIsRight}
use Rattle.spec_script.specs.Script as script
use Rattle.xl_outcome.specs.Making.{IsRunOf}
use Rattle.xl_outcome.specs.declared.stopped.Stopped.{Stopped}
use Rattle.xl_outcome.specs.declared.stopped.Stopped.TheVariants.{SaveFault, SinkFault, Memory}
use Rattle.xl_play.specs.declared.playing.Replies.{Replies}
use Rattle.xl_ports.specs.Sink.{WritesAll, WritesPart}
use Rattle.xl_ports.specs.State.{ShelfState}

-- the line that sums up a history of the calls of these sessions, and whether a save failed
pub record SumsUp (document : Document) (lists : List (List script.Line)) (entries : List Entry) (told : Replies) : Type 0 where
  pub run : IsRunOf document lists entries
  pub text : string_bytes told.text ≡ summary_of (outcome document lists)
  pub failed : WhetherFailed told.save_failed (save_faults entries)

-- A legal history of the first calls of these sessions, or of all, its versions within the limits, and the shelf after its saves. The
-- line that sums it up, unless memory ran out, is that of all.
pub record IsSummedUp
    (opening now : ShelfState) (document : Document) (lists : List (List script.Line)) (told : Result Replies AllocError) : Type 0 where
  pub entries : List Entry
  pub legal : IsLegal document entries
  pub front : IsFrontOf lists [] entries
  pub versions : AreWithin document entries
  pub shelf : ShelfIsRight opening document entries now
  pub sum : IfOk told (SumsUp document lists entries)

module _ {K : Type 0} (held : K → Option (List ℕ)) (faults : K → ℕ) where
  -- the text was written, after which a save that failed stops the command; or a fault of the sink came
  abbrev pub WritesText : (old new : K) → Replies → Result (Unit {0}) Stopped → Type 0
  WritesText old new replies (Ok x) = WritesAll held faults old new (string_bytes replies.text) × (replies.save_failed ≡ false)
  WritesText old new replies (Err SaveFault) =
      WritesAll held faults old new (string_bytes replies.text) × (replies.save_failed ≡ true)
  WritesText old new replies (Err SinkFault) = WritesPart held faults old new (string_bytes replies.text)
  WritesText old new replies (Err stopped) = ⊥

  -- without memory for a text nothing was written
  abbrev pub WritesReplies : (old new : K) → Result Replies AllocError → Result (Unit {0}) Stopped → Type 0
  WritesReplies old new (Ok replies) result = WritesText old new replies result
  WritesReplies old new (Err e) result = (result ≡ Err Memory) × (new ≡ old)
