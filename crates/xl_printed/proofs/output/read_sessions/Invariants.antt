use Rattle.xl_printed.proofs.Lining.{IsSessionsLeft}
use Rattle.xl_printed.proofs.output.read_sessions.Given as goal

abbrev pub invariant-loop-session : goal.invariant-loop-session
invariant-loop-session l = IsSessionsLeft l.counts l.session l.fn.text l.rest l.replies.items
