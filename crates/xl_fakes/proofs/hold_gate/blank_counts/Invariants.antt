use Rattle.std.proofs.Common.{◌≡◌, vec_len}
use Rattle.xl_fakes.proofs.hold_gate.blank_counts.Given as goal

abbrev pub invariant-loop : goal.invariant-loop
invariant-loop l = vec_len l.counts ≡ l.counter
