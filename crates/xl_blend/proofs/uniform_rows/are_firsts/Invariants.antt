use Rattle.std.proofs.Common.{ℕ, ◌≤◌, ◌<◌}
use Rattle.std.specs.Bool.{OnTrue, OnFalse}
use Rattle.xl_blend.specs.Uniform.{IsFirstAt}
use Rattle.xl_blend.proofs.uniform_rows.are_firsts.Given as goal

abbrev pub invariant-loop-i : goal.invariant-loop-i
invariant-loop-i l = record {
  each : OnTrue l.same ((k : ℕ) → l.from ≤ k → k < l.i → IsFirstAt k l.below × IsFirstAt k l.above);
  one_is_not : OnFalse l.same (¬ ((k : ℕ) → l.from ≤ k → k < l.i → IsFirstAt k l.below × IsFirstAt k l.above));
}
