use Rattle.xl_judging.proofs.Calling.{AreGathered}
use Rattle.xl_judging.proofs.calls.script_calls.Given as goal

abbrev pub invariant-loop-session : goal.invariant-loop-session
invariant-loop-session l = AreGathered l.script l.session l.calls.items
