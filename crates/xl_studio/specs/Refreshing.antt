-- A tile that is composed outside the turn, before the call that asks for it.
use Rattle.std.specs.Prelude.{◌≡◌, ℕ, ◌+◌, ◌≤◌, Option, Some}
use Rattle.spec_document.specs.declared.TileAt.{TileAt}
use Rattle.spec_cache.specs.declared.Finished.{Finished}
use Rattle.spec_cache.specs.Cache.{finish}
use Rattle.spec_history.specs.Machine as machine
use Rattle.spec_history.specs.History.{document_of}
use Rattle.xl_compose.specs.Job.{Job, StandsFor}
use Rattle.xl_compose.specs.declared.clean.Done.{Done}
use Rattle.xl_history.specs.Editing.{handed_in, IsPictureOf}
use Rattle.xl_history.specs.Jobs.{finished_by}
use Rattle.xl_history.specs.History.{History, version, document}
use Rattle.xl_history.specs.Needs.{most_cost}
use Rattle.xl_history.specs.Now.{IsTileOf}
use Rattle.xl_history.specs.Places.{place_done}
use Rattle.xl_turn.specs.Seats.{Exchange}
use Rattle.xl_studio.specs.State.{State}

-- the job is of a stack and a tile that are there after this history, and stands for its last version
pub record IsJobAt (h : History) (stack : ℕ) (at : TileAt) (job : Job) : Type 0 where
  pub stands : StandsFor (document h) stack at (version h) job
  pub there : IsTileOf (document h) (record { stack = stack; at = at })

-- The turn took out what has this history, and put it back with the picture handed in. What is told of the picture is what that
-- cache made of it.
pub record HandsIn {K : Type 0} (h : History) (done : Done) (finished : Finished) (turn : Option (Exchange (State K))) : Type 0 where
  pub out : State K
  pub back : State K
  pub turn_is : turn ≡ Some (record { out = out; back = back })
  pub history_is : out.core.history ≡ h
  pub core_is : back.core ≡ handed_in out.core done
  pub closing_is : back.closing ≡ out.closing
  pub finished_is : finished ≡ finish out.core.cache (place_done done) done.version

-- A picture of the tile was handed in, that of some version which is none below `least`. What is told of it follows from the history,
-- and the steps taken are no more than that version's tile costs. That the tile was marked, or that the picture was composed then, is
-- not said.
pub record IsRefreshed {K : Type 0} (least : ℕ) (h : History) (stack : ℕ) (at : TileAt) (before after : ℕ) (finished : Finished)
    (turn : Option (Exchange (State K))) : Type 0 where
  pub done : Done
  pub picture : IsPictureOf h done
  pub place : place_done done ≡ record { stack = stack; at = at }
  pub least_is : least ≤ done.version
  pub cost : after ≤ before + most_cost (document_of h.base h.entries done.version) (machine.tile stack at)
  pub finished_is : finished ≡ finished_by h.base h.entries (place_done done) done.version
  pub handed : HandsIn h done finished turn
