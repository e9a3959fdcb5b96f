-- Jobs as a desk gives them out, one to a seat.
use Rattle.std.specs.Prelude.{◌≡◌, ℕ, Bool, true, false, nat_lt, if◌then◌else◌, List, Option, Some, None, Result, Ok, Err}
use Rattle.spec_document.specs.Grid.{is_on_grid}
use Rattle.spec_document.specs.declared.TileAt.{TileAt}
use Rattle.spec_document.specs.Document.{Document}
use Rattle.spec_document.specs.Picture.{project}
use Rattle.spec_cache.specs.declared.Finished.{Finished}
use Rattle.spec_cache.specs.declared.Finished.TheVariants.{Installed, Late, Gone}
use Rattle.spec_cache.specs.Cache.{Place}
use Rattle.spec_history.specs.Machine.{latest, document_at, has_stack}
use Rattle.spec_history.specs.History.{Entry, replay, latest_of, document_of}
use Rattle.spec_history.specs.Marks.{marked_at}
use Rattle.xl_compose.specs.Job.{StandsFor}
use Rattle.xl_compose.specs.declared.clean.Done.{Done}
use Rattle.xl_history.specs.declared.jobs.Taken.{Taken}
use Rattle.xl_history.specs.declared.jobs.Taken.TheVariants as takes

-- a job that is out: its tile, its version, and the document at that version
pub record Out : Type 0 where
  pub stack : ℕ
  pub at : TileAt
  pub version : ℕ
  pub document : Document

-- after a job was given out that job is out, and it stands for its document; otherwise none is out
abbrev pub IsTaken : Taken → Option Out → Type 0
IsTaken (takes.Job job) out = (o : Out) × (out ≡ Some o) × StandsFor o.document o.stack o.at o.version job
IsTaken takes.Nothing out = out ≡ None
IsTaken takes.Closing out = out ≡ None

-- the job is of the last version after these entries, and of a stack and a tile that are there
pub record IsOfLatest (base : Document) (entries : List Entry) (out : Out) : Type 0 where
  pub version_is : out.version ≡ latest_of entries
  pub document_is : out.document ≡ document_of base entries (latest_of entries)
  pub has : has_stack out.document out.stack ≡ true
  pub on_grid : is_on_grid base.width base.height out.at ≡ true

abbrev pub is_closing : Taken → Bool
is_closing (takes.Job job) = false
is_closing takes.Nothing = false
is_closing takes.Closing = true

-- whether the answer was that the desk is closing
abbrev pub says_closing : {E : Type 0} → Result Taken E → Bool
says_closing (Ok taken) = is_closing taken
says_closing (Err e) = false

-- the picture is that of this job
pub record IsOutcome (out : Out) (done : Done) : Type 0 where
  pub node_is : done.node.0 ≡ out.stack
  pub at_is : done.at ≡ out.at
  pub version_is : done.version ≡ out.version
  pub picture_is : done.picture ≡ project out.document out.stack out.at

-- it is that of the job that is out
abbrev pub IsOutcomeOf : Option Out → Done → Type 0
IsOutcomeOf out done = (o : Out) × (out ≡ Some o) × IsOutcome o done

-- What becomes of a picture of this version after a history, by the history alone: it is gone where its stack is none of the last
-- version, late where a later version has marked its tile, and else it is kept.
abbrev pub finished_by : Document → List Entry → Place → (version : ℕ) → Finished
finished_by base entries place version =
    let s = replay base entries in
    let mark = marked_at base s place.stack place.at in
    let there = if nat_lt version mark then Late mark else Installed in
    if has_stack (document_at base s (latest s)) place.stack then there else Gone
