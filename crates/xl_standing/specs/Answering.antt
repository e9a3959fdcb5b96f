-- What is made of a call where only what stands is known, and not the history.
use Rattle.std.specs.Prelude.{◌≡◌, ℕ, ◌+◌, ◌<◌, ◌≤◌, ◌^◌, List, Option, Result, IfOk, OnErr, IsOk}
use Rattle.std.specs.List.{AllByRecursion}
use Rattle.spec_document.specs.Limits.{AreBytes}
use Rattle.spec_filters.specs.declared.FilterState.{FilterState}
use Rattle.spec_history.specs.declared.TheConstants.{MAX_EDITS}
use Rattle.spec_history.specs.Machine.{Call}
use Rattle.spec_tables.specs.Agrees.{AreAsked, IsPartAfter}
use Rattle.spec_tables.specs.Tables.{edits_made}
use Rattle.spec_standing.specs.Group.{HasIds}
use Rattle.spec_standing.specs.Now as now
use Rattle.spec_standing.specs.Now.{Now, Gives, ShowsNow, IsKeptNow, at_now, accepts}
use Rattle.xl_calls.specs.Replies.{reply_of}
use Rattle.xl_desk.specs.declared.answered.Answered.{Answered}
use Rattle.xl_desk.specs.Needs.{TakesNoStep, IsUndoOrRedo, call_cost}
use Rattle.xl_desk.specs.Served.{IsServed}

-- A call can be answered: what is kept is right, and its ids and numbers are within their types.
pub record MayGoOn (now : Now) : Type 0 where
  pub kept : IsKeptNow now
  pub versions : now.version < 2 ^ 31
  pub groups : now.next_group < 2 ^ 31
  pub ids : HasIds (at_now now) MAX_EDITS

-- The call is told what it is told by what stands and by the tables that its filters answered, and a tile that is told of is in the
-- desk. A marked tile is composed once, at no more than it costs, and no other call takes a step. After out of memory all is as
-- before, but that the filters of the first edits of a group that is accepted may have been asked; an undo or a redo takes no memory.
pub record AnswersNow {E : Type 0} (call : Call) (seen : ℕ) (result : Result Answered E) (old new : Now)
    (before after : List (Option FilterState)) (bytes_before bytes_after : List ℕ) (steps_before steps_after : ℕ) : Type 0 where
  pub response : IfOk result (λ a. Gives (now.response old call seen a.tables) (reply_of a.reply) new)
  pub asked : IfOk result (λ a. AreAsked before after (edits_made call (reply_of a.reply)) a.tables)
  pub bytes : IfOk result (λ a. AllByRecursion AreBytes a.tables)
  pub shown : IfOk result (λ a. ShowsNow new call (reply_of a.reply) bytes_after)
  pub served : IsServed (λ (a : Answered). reply_of a.reply) result bytes_before bytes_after steps_before steps_after
  pub steps : TakesNoStep old.cache call → steps_after ≡ steps_before
  pub cost : steps_after ≤ steps_before + call_cost old.cache old.document call
  pub as_before : OnErr result (new ≡ old)
  pub chest : OnErr result (IsPartAfter (accepts old call) before after call)
  pub succeeds : IsUndoOrRedo call → IsOk result
