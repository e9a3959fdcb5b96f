use Rattle.std.proofs.Common.{◌≡◌, ◌+◌, length}
use Rattle.std.specs.Prelude.{vec_capacity}
use Rattle.xl_sessions.specs.Players.{AreFree, AreNumbered}
use Rattle.xl_studio.specs.Jobs.{job_out}
use Rattle.xl_studio.specs.Seats.{known_by, weight_of, IsSeatOf}
use Rattle.xl_sessions.proofs.seating.seat_workers.Given as goal

abbrev pub invariant-loop-at : goal.invariant-loop-at
invariant-loop-at g l =
    IsSeatOf l.studio l.own
    × (known_by l.own ≡ known_by l.initial.own)
    × (weight_of l.own + l.at ≡ weight_of l.initial.own)
    × AreFree l.studio l.workers.items
    × AreNumbered l.workers.items
    × (length l.workers.items ≡ l.at)
    × (vec_capacity l.workers ≡ vec_capacity l.initial.workers)
    × (job_out l.own ≡ job_out l.initial.own)
