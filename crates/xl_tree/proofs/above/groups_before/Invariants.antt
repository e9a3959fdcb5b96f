use Rattle.std.proofs.Common.{◌≡◌, ◌+◌, ◌≤◌, ◌++◌, length, map, take}
use Rattle.xl_tree.specs.Above.{groups_before}
use Rattle.xl_tree.proofs.above.groups_before.Given as goal

abbrev pub invariant-loop-at : goal.invariant-loop-at
invariant-loop-at g l =
    (map (λ i. i.0) l.above ++ groups_before (take l.at l.before) l.lowest ≡ groups_before l.before l.level)
    × (length l.above + l.lowest ≤ 8)
    × (l.at ≤ length l.before)

abbrev pub decreases-loop-at : goal.decreases-loop-at
decreases-loop-at g l = l.at
