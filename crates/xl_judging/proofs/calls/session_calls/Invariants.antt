use Rattle.xl_judging.proofs.Calling.{AreCalled}
use Rattle.xl_judging.proofs.calls.session_calls.Given as goal

abbrev pub invariant-loop-line : goal.invariant-loop-line
invariant-loop-line l = AreCalled l.lines l.line-index l.calls
