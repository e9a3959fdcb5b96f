use Rattle.std.proofs.Common.{◌≡◌, map, string_bytes}
use Rattle.xl_run.specs.Printing.{lines_of_sessions}
use Rattle.xl_run.proofs.printing.print_all.Given as goal

abbrev pub invariant-loop-session : goal.invariant-loop-session
invariant-loop-session l =
    string_bytes l.text ≡ lines_of_sessions (map (λ ds. map string_bytes ds.items) l.digests) l.entries l.session
