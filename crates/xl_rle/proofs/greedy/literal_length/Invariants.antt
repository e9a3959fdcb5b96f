use Rattle.std.proofs.Common.{◌≡◌, ◌+◌, ◌-◌, ◌≤◌, length, drop}
use Rattle.spec_rle.specs.Greedy.{up_to_run}
use Rattle.xl_rle.proofs.greedy.literal_length.Given as goal

abbrev pub invariant-loop-n : goal.invariant-loop-n
invariant-loop-n l = record {
  inside : l.n ≤ length l.bytes;
  counted : length (up_to_run l.bytes) ≡ l.n + length (up_to_run (drop l.n l.bytes));
}

abbrev pub decreases-loop-n : goal.decreases-loop-n
decreases-loop-n l = length l.bytes - l.n
