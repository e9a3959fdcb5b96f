-- What a call of a session came to, and what its seat knows afterwards.
use Rattle.std.specs.Prelude.{◌≡◌, ℕ, ◌+◌, ◌≤◌, List, [], Option, Result, IfOk, OnErr}
use mathlib.Core.List.{IsPrefix}
use Rattle.spec_document.specs.Document.{Document}
use Rattle.spec_filters.specs.declared.FilterState.{FilterState}
use Rattle.spec_history.specs.Machine as machine
use Rattle.spec_history.specs.Machine.{Call}
use Rattle.spec_history.specs.History.{asked, latest_of}
use Rattle.spec_history.specs.Kept.{IsFreshReply}
use Rattle.spec_history.specs.Limited.{edits_of}
use Rattle.spec_tables.specs.Agrees.{Agrees, IsAfter, IsPartAfter}
use Rattle.spec_tables.specs.Tables.{expected_tables}
use Rattle.xl_history.specs.Answering.{AnswersCall}
use Rattle.xl_history.specs.History.{document, is_accepted, Shows, NeedsNoStep}
use Rattle.xl_history.specs.Needs.{most_cost}
use Rattle.xl_history.specs.Served.{IsServed}
use Rattle.xl_calls.specs.declared.reply.Reply.{Reply}
use Rattle.xl_calls.specs.Replies.{reply_of}
use Rattle.xl_turn.specs.declared.view.Chronicle.{Ghosts}
use Rattle.xl_studio.specs.declared.moment.Moment.{Moment}
use Rattle.xl_studio.specs.declared.seat.Seat.{Seat}
use Rattle.xl_studio.specs.declared.seat.Studio.{Studio}
use Rattle.xl_studio.specs.Moments.{entries_in}
use Rattle.xl_studio.specs.State.{State, IsKept}
use Rattle.xl_studio.specs.Calling.{Known, IsCalled, HasHeard, IsNoTile, before_last}
use Rattle.xl_studio.specs.Seats.{base_of, history_of, front_of, weight_of, known_by, IsSeatOf}
use Rattle.xl_studio.specs.Jobs.{job_out, tally_of}

-- The seat is still the studio's and has no turn. Its weight, its job and its tally are what they were, and what it knew begins what
-- it knows.
pub record SeatGoesOn {K : Type 0} {C : Ghosts (State K) (Moment K)} (studio : Studio K) (old new : Seat K C) : Type 0 where
  pub seat : IsSeatOf studio new
  pub weight : weight_of new ≡ weight_of old
  pub job : job_out new ≡ job_out old
  pub closed : new.closed ≡ old.closed
  pub tally : tally_of new ≡ tally_of old
  pub begins : IsPrefix (front_of old) (front_of new)

-- The reply is that of the call's entry, whose tables are what the filters answered in the call; a call without edits has none. It
-- names no older version than the seat knew, and the desk has the bytes of the version that it names. Of the chest the filters of a
-- group that is accepted were asked.
pub record IsReplied {K : Type 0} (base : Document) (session : ℕ) (call : Call) (before after : List (Option FilterState))
    (bytes : List ℕ) (old new : Known K) (reply : machine.Reply) : Type 0 where
  pub called : (filters : List FilterState) → Agrees before filters
      → IsCalled base session call (expected_tables filters (asked call []) reply) reply old new
  pub made : edits_of call ≡ [] → IsCalled base session call [] reply old new
  pub fresh : IsFreshReply (latest_of (entries_in old.front)) reply
  pub shown : Shows (history_of base new.front) call reply bytes
  pub chest : IsAfter before after call reply

-- A call was answered, or memory ran out for it and nothing was made, but that the filters of the first edits of a group that is
-- accepted may have been asked. Only a tile takes steps: at most what it costs to compose it once at the last version before the
-- call's own entry, and none where it was kept there, where the reply is no tile, and after out of memory. Only a reply that is a tile
-- changes what is in the desk.
pub record IsAnswered {K : Type 0} {C : Ghosts (State K) (Moment K)} {E : Type 0} (studio : Studio K) (session : ℕ) (call : Call)
    (result : Result Reply E) (old new : Seat K C) (before after : List (Option FilterState)) (bytes_before bytes_after : List ℕ)
    (steps_before steps_after : ℕ) : Type 0 where
  pub goes_on : SeatGoesOn studio old new
  pub replied : IfOk result (λ reply. IsReplied (base_of studio) session call before after bytes_after (known_by old) (known_by new)
      (reply_of reply))
  pub failed : OnErr result (HasHeard (known_by old) (known_by new))
  pub part : OnErr result (IsPartAfter (is_accepted (history_of (base_of studio) (front_of new)) call) before after call)
  pub steps : IsNoTile call → steps_after ≡ steps_before
  pub no_step : IfOk result (λ _. NeedsNoStep (history_of (base_of studio) (before_last (front_of new))) call
      → steps_after ≡ steps_before)
  pub cost : IfOk result (λ _. steps_after
      ≤ steps_before + most_cost (document (history_of (base_of studio) (before_last (front_of new)))) call)
  pub served : IsServed reply_of result bytes_before bytes_after steps_before steps_after

-- What lies under the lock answers a call, for a seat that has seen the versions up to `seen`, as its core does. The reply names no older
-- version.
pub record IsAnsweredUnderLock {K : Type 0} {E : Type 0} (session : ℕ) (call : Call) (seen : ℕ) (result : Result Reply E)
    (old new : State K) (before after : List (Option FilterState)) (bytes_before bytes_after : List ℕ)
    (steps_before steps_after : ℕ) : Type 0 where
  pub core : AnswersCall reply_of session call seen result old.core new.core before after bytes_before bytes_after
      steps_before steps_after
  pub fresh : IfOk result (λ reply. IsFreshReply seen (reply_of reply))
  pub kept : IsKept new.core
  pub closing : new.closing ≡ old.closing
