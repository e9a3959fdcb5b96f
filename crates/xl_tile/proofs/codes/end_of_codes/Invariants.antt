use Rattle.std.proofs.Common.{ℕ, ◌-◌, ◌≤◌, length}
use Rattle.xl_tile.specs.Codes.{StandTo}
use Rattle.xl_tile.proofs.codes.end_of_codes.Given as goal

-- what stands behind the planes so far makes all of them stand
abbrev pub invariant-loop-c : goal.invariant-loop-c
invariant-loop-c l = record {
  inside : l.end ≤ length l.bytes;
  rest : (end : ℕ) → StandTo l.bytes l.end l.n (l.planes - l._c) end → StandTo l.bytes l.at l.n l.planes end;
}
