use Rattle.std.proofs.Common.{map, length, string_bytes}
use Rattle.xl_run.proofs.Lines.{IsOnTheWay}
use Rattle.xl_run.proofs.printing.print_session.Given as goal

abbrev pub invariant-loop-entry : goal.invariant-loop-entry
invariant-loop-entry l = IsOnTheWay l.fn.session (string_bytes l.fn.text) (map string_bytes l.fn.digests) l.fn.entries
    (string_bytes l.text) (map string_bytes l.left) l.rest

abbrev pub decreases-loop-entry : goal.decreases-loop-entry
decreases-loop-entry l = length l.rest
