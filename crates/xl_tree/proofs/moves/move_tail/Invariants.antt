use Rattle.std.proofs.Common.{◌≡◌, ◌≤◌, ◌++◌, length, reverse}
use Rattle.std.specs.Vec.{vec_capacity}
use Rattle.xl_tree.proofs.moves.move_tail.Given as goal

abbrev pub invariant-loop-moved : goal.invariant-loop-moved
invariant-loop-moved g l =
    (l.from.items ++ reverse l.to.items ≡ l.fn.from.items)
    × (length l.to.items ≡ l._moved)
    × (vec_capacity l.from ≡ vec_capacity l.fn.from)
    × (vec_capacity l.fn.to ≤ vec_capacity l.to)
