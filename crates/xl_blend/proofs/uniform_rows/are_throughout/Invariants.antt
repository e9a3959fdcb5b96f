use Rattle.std.proofs.Common.{ℕ, ◌-◌, ◌≤◌, ◌<◌, length}
use Rattle.xl_blend.specs.Uniform.{IsFirstAt}
use Rattle.xl_blend.proofs.uniform_rows.are_throughout.Given as goal

abbrev pub invariant-loop-at : goal.invariant-loop-at
invariant-loop-at l = record {
  within : l.at ≤ length l.below;
  known : (k : ℕ) → k < l.at → IsFirstAt k l.below × IsFirstAt k l.above;
}

abbrev pub decreases-loop-at : goal.decreases-loop-at
decreases-loop-at l = length l.below - l.at
