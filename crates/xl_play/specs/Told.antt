-- What is told of a script that was played.
use Rattle.std.specs.Prelude.{◌≡◌, ◌<◌, ◌^◌, ℕ, List, length, map, IfOk, Result, Vec, string_bytes}
use Rattle.std.specs.List.{AllByRecursion}
use Rattle.std.specs.declared.alloc.Global.{Global}
use Rattle.std.specs.declared.alloc.AllocError.{AllocError}
use Rattle.spec_document.specs.Document.{Document}
use Rattle.spec_filters.specs.declared.FilterState.{FilterState}
use Rattle.spec_script.specs.Fits.{FitsFilters}
use Rattle.spec_script.specs.Script as script
use Rattle.spec_history.specs.History.{Entry}
use Rattle.spec_history.specs.Kept.{IsLegal}
use Rattle.spec_saves.specs.Names.{save_faults}
use Rattle.spec_saves.specs.Shelf.{ShelfIsRight}
use Rattle.spec_text.specs.Text.{IsTextOf, Alone}
use Rattle.spec_run.specs.Failed.{WhetherFailed}
use Rattle.spec_run.specs.First.{AreOfFirst}
use Rattle.spec_run.specs.Fronts.{IsFrontOf}
use Rattle.spec_run.specs.Versions.{AreWithin}
use Rattle.xl_filters.specs.Chests.{states_of}
use Rattle.xl_history.specs.Editing.{Editing}
use Rattle.xl_play.specs.Playing.{IsBetweenLines}
use Rattle.xl_play.specs.declared.playing.Replies.{Replies}
use Rattle.xl_ports.specs.State.{ShelfState}

-- The text of these entries for these lines, and whether a save failed. Where no worker was asked for, all lines are of session 0
-- and no save failed, it is that of one session alone.
pub record IsToldOf
    (document : Document) (lists : List (List script.Line)) (chests : List (List FilterState)) (workers : ℕ) (entries : List Entry)
    (told : Replies) : Type 0 where
  pub text : IsTextOf (string_bytes told.text) document lists chests entries
  pub alone : workers ≡ 0 → AreOfFirst lists → save_faults entries ≡ 0 → Alone (string_bytes told.text) document lists chests
  pub failed : WhetherFailed told.save_failed (save_faults entries)

-- a script of session 0 alone, and the filters of its sessions
pub record IsScriptOfFirst {B : Type 0} (state : B → FilterState) (lists : List (List script.Line)) (chest : List (Vec B Global))
    : Type 0 where
  pub first : AreOfFirst lists
  pub boxes : AllByRecursion (λ boxes. length boxes.items < 2 ^ 32) chest
  pub fits : FitsFilters (map length (states_of state chest)) lists

-- What comes of it: its first calls were made, or all; and its text, unless memory ran out.
pub record IsScriptPlayed {D : Type 0} (result : Result Replies AllocError) (old new : Editing D) (lists : List (List script.Line))
    (chests : List (List FilterState)) : Type 0 where
  pub between : IsBetweenLines old.history.base old.opening new
  pub front : IsFrontOf lists chests new.history.entries
  pub told : IfOk result (IsToldOf old.history.base lists chests 0 new.history.entries)

-- A legal history of the first calls of a script, or of all, its versions within the limits, and the shelf after its saves. Its text,
-- unless memory ran out, is that of all calls.
pub record IsPlayed
    (opening now : ShelfState) (document : Document) (lists : List (List script.Line)) (chests : List (List FilterState)) (workers : ℕ)
    (replies : Result Replies AllocError) : Type 0 where
  pub entries : List Entry
  pub legal : IsLegal document entries
  pub front : IsFrontOf lists chests entries
  pub versions : AreWithin document entries
  pub shelf : ShelfIsRight opening document entries now
  pub told : IfOk replies (IsToldOf document lists chests workers entries)
