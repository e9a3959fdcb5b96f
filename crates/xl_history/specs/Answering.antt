-- What a core makes of a call.
use Rattle.std.specs.Prelude.{◌≡◌, ℕ, ◌+◌, ◌≤◌, true, List, [], length, Option, Result, IfOk, OnErr, IsOk}
use Rattle.spec_filters.specs.declared.FilterState.{FilterState}
use Rattle.spec_history.specs.declared.TheConstants.{MAX_ENTRIES}
use Rattle.spec_history.specs.Machine.{Call, Reply}
use Rattle.spec_history.specs.History.{asked}
use Rattle.spec_history.specs.Kept.{IsLegal}
use Rattle.spec_tables.specs.Agrees.{Agrees, IsAfter, IsPartAfter}
use Rattle.spec_tables.specs.Tables.{expected_tables}
use Rattle.spec_world.specs.Right as worlds
use Rattle.spec_standing.specs.History.{document, is_full, is_accepted, Shows, NeedsNoStep}
use Rattle.xl_desk.specs.Needs.{TakesNoStep, IsUndoOrRedo, call_cost}
use Rattle.xl_desk.specs.Served.{IsServed}
use Rattle.xl_history.specs.Editing.{Editing, world, IsSubmitted, KeepsShelf, IsAsBefore}

-- The call is the event of the world, whose tables are what its filters answered, and a tile that is told of is in the desk. No shelf
-- changes hands, and there is room for one entry less at most. A marked tile is composed once, at no more than it costs, and no other
-- call takes a step. After out of memory all is as before, but that the filters of the first edits of a group that is accepted may
-- have been asked; an undo or a redo for which there is room does not run out of it.
pub record AnswersCall {K R E : Type 0} (reply_of : R → Reply) (session : ℕ) (call : Call) (seen : ℕ) (result : Result R E)
    (old new : Editing K) (before after : List (Option FilterState)) (bytes_before bytes_after : List ℕ)
    (steps_before steps_after : ℕ) : Type 0 where
  pub answered : (filters : List FilterState) → Agrees before filters
      → IfOk result (λ r. IsSubmitted old session call seen (expected_tables filters (asked call []) (reply_of r)) (reply_of r) new)
  pub chest : IfOk result (λ r. IsAfter before after call (reply_of r))
  pub shown : IfOk result (λ r. Shows new.history call (reply_of r) bytes_after)
  pub right : IfOk result (λ r. worlds.IsRight new.history.base (world new))
  pub legal : IsLegal new.history.base new.history.entries
  pub few : length new.history.entries ≤ MAX_ENTRIES
  pub shelf : KeepsShelf old new
  pub spare : old.spare ≤ new.spare + 1
  pub served : IsServed reply_of result bytes_before bytes_after steps_before steps_after
  pub steps : TakesNoStep old.cache call → steps_after ≡ steps_before
  pub no_step : NeedsNoStep old.history call → steps_after ≡ steps_before
  pub full : is_full old.history ≡ true → steps_after ≡ steps_before
  pub cost : steps_after ≤ steps_before + call_cost old.cache (document old.history) call
  pub as_before : OnErr result (IsAsBefore old new)
  pub part : OnErr result (IsPartAfter (is_accepted old.history call) before after call)
  pub succeeds : 1 ≤ old.spare → IsUndoOrRedo call → IsOk result
