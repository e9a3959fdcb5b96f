use Rattle.std.proofs.Common.{length}
use Rattle.xl_sessions.proofs.JoinedSeats.{AreJoiningWorkers}
use Rattle.xl_sessions.proofs.joining.join_workers.Given as goal

abbrev pub invariant-loop-worker : goal.invariant-loop-worker
invariant-loop-worker g l = AreJoiningWorkers l.studio l.initial.own (length l.fn.workers.items) l.worker-iterator.rest.items l.own
