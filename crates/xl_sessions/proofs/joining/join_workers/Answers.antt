use Rattle.std.proofs.Common.{arith}
use Rattle.xl_sessions.proofs.JoinedSeats.{workers_none, worker_seat, worker_free, workers_more}
use Rattle.xl_sessions.proofs.joining.join_workers.Goals as goal

pub loop-worker-init : goal.loop-worker-init
loop-worker-init g c =
    workers_none c.args.studio.now c.args.own.now c.args.workers.items c.into_iter-worker-iterator.result.rest.items
    c.into_iter-worker-iterator.ensures.into_iter_gives.0 c.requires.own c.requires.worked

pub join-requires-clause-other : goal.join-requires-clause-other
join-requires-clause-other g c κs within = worker_seat c.in-Some.worker c.next.new.self.rest.items c.loop-worker.invariant
    c.in-Some.ensures.steps.0

pub join-requires-clause-free : goal.join-requires-clause-free
join-requires-clause-free g c κs within = worker_free c.in-Some.worker c.next.new.self.rest.items c.loop-worker.invariant
    c.in-Some.ensures.steps.0

pub loop-worker-preserved : goal.loop-worker-preserved
loop-worker-preserved g c =
    workers_more c.in-Some.worker c.next.new.self.rest.items c.loop-worker.invariant c.in-Some.ensures.steps.0 c.join.new.seat
    c.join.ensures.seat c.join.ensures.job c.join.ensures.made c.join.ensures.weight c.join.ensures.begins

pub returns-clause-weight : goal.returns-clause-weight
returns-clause-weight g c =
    let was = c.loop-worker.invariant.weight in
    omega (arith, was, c.in-None.ensures.steps.0, c.loop-worker.worker-iterator.rest.ok)
