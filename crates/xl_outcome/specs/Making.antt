-- What becomes of a shelf where a document that was made is saved and edited, and what is written then.
use Rattle.std.specs.Prelude.{◌≡◌, ℕ, List, [], IfSome}
use Rattle.spec_document.specs.Document.{Document}
use Rattle.spec_generated.specs.Summary.{outcome, summary_of}
use Rattle.spec_history.specs.History.{Entry, latest_of, document_of}
use Rattle.spec_history.specs.Kept.{IsLegal}
use Rattle.spec_saves.specs.Names.{save_faults}
use Rattle.spec_saves.specs.Contents.{IsVersion}
use Rattle.spec_saves.specs.Shelf.{file_name, ShelfIsRight}
use Rattle.spec_script.specs.Script.{Line}
use Rattle.spec_text.specs.Text.{IsTextOf, printed}
use Rattle.spec_world.specs.declared.SaveEnd.TheVariants.{Done, Fault}
use Rattle.xl_ports.specs.Shelf.{Content}
use Rattle.xl_ports.specs.Disk.{Disk, MayLeave}
use Rattle.xl_ports.specs.State.{ShelfState}
use Rattle.xl_snapshot.specs.Saving.{IsSavedOn}
use Rattle.spec_run.specs.Versions.{AreWithin}

-- a fault stopped the first save, that of the document as it is made
abbrev pub FailsAtFirst : (opening now : ShelfState) → Document → Type 0
FailsAtFirst opening now d = IsSavedOn opening d Fault now

-- The first save is done, and the saves of a legal history of the document come behind it, the old file being that of the first.
-- Each version is within the limits.
pub record IsMadeHistory (opening now : ShelfState) (d : Document) (entries : List Entry) : Type 0 where
  pub first : ShelfState
  pub saved : IsSavedOn opening d Done first
  pub legal : IsLegal d entries
  pub versions : AreWithin d entries
  pub shelf : ShelfIsRight first d entries now

-- The history is one of the calls of these sessions, which have no filters, and the document after it is that after the calls one
-- session after another.
pub record IsRunOf (d : Document) (lists : List (List Line)) (entries : List Entry) : Type 0 where
  pub calls : IsTextOf (printed d entries) d lists [] entries
  pub last : document_of d entries (latest_of entries) ≡ outcome d lists

-- a crash leaves a file of the last document and nothing else, and a read gives one
abbrev pub HasLast : (name : List ℕ) → (d : Document) → List Entry → Disk → Type 0
HasLast name d entries disk = (c : Content) → MayLeave disk name c → IsVersion d entries (latest_of entries) c

-- The line that sums up such a history of the calls of these sessions, and the shelf after its saves. Where none of these failed, the
-- file is that of the last document.
pub record IsSummary (opening now : ShelfState) (d : Document) (lists : List (List Line)) (HaveFailed : ℕ → Type 0) (out : List ℕ)
    : Type 0 where
  pub entries : List Entry
  pub history : IsMadeHistory opening now d entries
  pub run : IsRunOf d lists entries
  pub text : out ≡ summary_of (outcome d lists)
  pub file : save_faults entries ≡ 0 → IfSome now.disk (HasLast (file_name opening) d entries)
  pub failed : HaveFailed (save_faults entries)
