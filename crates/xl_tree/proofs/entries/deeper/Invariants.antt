use Rattle.std.proofs.Common.{◌≡◌, ◌+◌, drop}
use Rattle.xl_tree.specs.Flat.{below}
use Rattle.xl_tree.proofs.entries.deeper.Given as goal

abbrev pub invariant-loop-at : goal.invariant-loop-at
invariant-loop-at g l = l.at + below l.level (drop l.at l.entries) ≡ below l.level l.entries
