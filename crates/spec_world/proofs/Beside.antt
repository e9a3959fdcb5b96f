-- Calls beside jobs that are out.
use Rattle.std.proofs.Common.{◌≡◌, ℕ, Bool, true, false, cond, ◌==◌, List, refl}
use Rattle.spec_document.specs.declared.TileAt.{TileAt}
use Rattle.spec_document.specs.Document.{Document}
use Rattle.spec_history.specs.Machine.{Call, edit, undo, redo, tile, peek, top, Reply, history_full}
use Rattle.spec_world.specs.World.{World, Job, free_entries}
use Rattle.spec_world.specs.Events.{reply_to, with_call, Outcome}
use Rattle.spec_world.specs.Right.{CallsLeaveJobs}

-- a call is answered by the history and what is kept
answered : (base : Document) (w : World) (jobs : List Job) (call : Call) (seen : ℕ) (tables : List (List ℕ))
    → reply_to base (record w { jobs = jobs }) call seen tables ≡ reply_to base w call seen tables
answered base w jobs (edit guard edits) seen tables = refl
answered base w jobs (undo named) seen tables = refl
answered base w jobs redo seen tables = refl
answered base w jobs (tile stack at) seen tables = refl
answered base w jobs (peek stack at) seen tables = refl
answered base w jobs top seen tables = refl

pub leave-jobs : (base : Document) → CallsLeaveJobs base
leave-jobs base w jobs session call seen tables =
    go (free_entries w == 0) (reply_to base (record w { jobs = jobs }) call seen tables) (reply_to base w call seen tables)
    (answered base w jobs call seen tables)
  where
    beside : World
    beside = record w { jobs = jobs }

    done : World → Reply → Outcome
    done v reply = record { reply = reply; world = with_call base v session call tables reply }

    with_jobs : Outcome → Outcome
    with_jobs o = record { reply = o.reply; world = record o.world { jobs = jobs } }

    go : (b : Bool) (r q : Reply) → r ≡ q
        → cond b (record { reply = history_full; world = beside }) (done beside r)
        ≡ with_jobs (cond b (record { reply = history_full; world = w }) (done w q))
    go true r q same = refl
    go false r q same = λ i. done beside (same i)
