-- A seat's job.
use Rattle.std.specs.Prelude.{◌≡◌, ◌≤◌, true, List, Option, Some, None, Result, Ok, Err, option_map, IfSome}
use Rattle.spec_document.specs.Grid.{is_on_grid}
use Rattle.spec_document.specs.Document.{Document}
use Rattle.spec_history.specs.Machine.{has_stack}
use Rattle.spec_history.specs.History.{latest_of, document_of}
use Rattle.xl_history.specs.declared.jobs.Taken.{Taken}
use Rattle.xl_history.specs.declared.jobs.Taken.TheVariants as takes
use Rattle.xl_history.specs.declared.tally.Tally.{Tally}
use Rattle.xl_history.specs.Jobs.{Out}
use Rattle.xl_turn.specs.declared.view.Chronicle.{Ghosts}
use Rattle.xl_studio.specs.declared.moment.Moment.{Moment}
use Rattle.xl_studio.specs.declared.seat.Away.{Away}
use Rattle.xl_studio.specs.declared.seat.Seat.{Seat}
use Rattle.xl_studio.specs.declared.seat.Studio.{Studio}
use Rattle.xl_studio.specs.Moments.{entries_in}
use Rattle.xl_studio.specs.State.{State}
use Rattle.xl_studio.specs.Seats.{base_of, front_of, IsSeatOf}

abbrev pub out_of : Away → Out
out_of a = record { stack = a.node.0; at = a.at; version = a.version; document = a.document.value }

-- the job that is out after this answer, of this document
abbrev pub out_after : {E : Type 0} → Result Taken E → Document → Option Out
out_after (Ok (takes.Job job)) d = Some (record { stack = job.stack; at = job.at; version = job.version; document = d })
out_after (Ok takes.Nothing) d = None
out_after (Ok takes.Closing) d = None
out_after (Err e) d = None

-- the job is of a version in this front, and of a stack and a tile that were there then
pub record IsJobOf {K : Type 0} (base : Document) (front : List (Moment K)) (out : Out) : Type 0 where
  pub version : out.version ≤ latest_of (entries_in front)
  pub document_is : out.document ≡ document_of base (entries_in front) out.version
  pub has : has_stack out.document out.stack ≡ true
  pub on_grid : is_on_grid base.width base.height out.at ≡ true

module _ {K : Type 0} {C : Ghosts (State K) (Moment K)} where
  -- the job that the seat has out
  abbrev pub job_out : Seat K C → Option Out
  job_out s = option_map out_of s.job

  -- what became of the pictures that were handed in with the seat
  abbrev pub tally_of : Seat K C → Tally
  tally_of s = s.tally

  -- the seat is this studio's, and what it has out is a job of its front
  pub record IsWorker (studio : Studio K) (s : Seat K C) : Type 0 where
    pub seat : IsSeatOf studio s
    pub job : IfSome (job_out s) (IsJobOf (base_of studio) (front_of s))
