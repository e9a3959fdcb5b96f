use Rattle.std.proofs.Common.{arith}
use Rattle.xl_tree.proofs.Own.{none_own, none_siblings}
use Rattle.xl_tree.proofs.branch.Branch.new.Goals as goal

pub invariant_of-result : goal.invariant_of-result
invariant_of-result g c = (
  none_siblings c.in_ok-entries.entries.items c.in_ok-entries.ensures.items,
  omega (arith, c.in_ok-entries.ensures.capacity),
  none_own c.in_ok-entries.entries.items c.in_ok-entries.ensures.items,
)
