use Rattle.std.proofs.Common.{◌≡◌, ◌+◌, ◌≤◌, length}
use Rattle.std.specs.Vec.{vec_capacity}
use Rattle.xl_pool.specs.Pool.{HaveSides}
use Rattle.xl_pool.proofs.pool.Pool.new.Given as goal

abbrev pub invariant-loop-i : goal.invariant-loop-i
invariant-loop-i l =
    HaveSides l.width l.height l.each.items × ((length l.each.items ≡ l._i) × (l.count + l.more ≤ vec_capacity l.each))
