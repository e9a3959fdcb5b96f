use Rattle.std.proofs.Common.{◌≡◌, ◌+◌, ◌-◌, ◌≤◌, length, drop}
use Rattle.std.specs.Prelude.{take_while, ◌==◌}
use Rattle.spec_rle.specs.Greedy.{run_length}
use Rattle.xl_rle.proofs.greedy.run_length.Given as goal

abbrev pub invariant-loop-n : goal.invariant-loop-n
invariant-loop-n l = record {
  some : 1 ≤ l.n;
  inside : l.n ≤ length l.bytes;
  counted : run_length l.bytes ≡ l.n + length (take_while (λ c. c == l.first) (drop l.n l.bytes));
}

abbrev pub decreases-loop-n : goal.decreases-loop-n
decreases-loop-n l = length l.bytes - l.n
