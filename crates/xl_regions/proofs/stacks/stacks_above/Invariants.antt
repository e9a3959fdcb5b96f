use Rattle.std.proofs.Common.{◌≡◌, take}
use Rattle.xl_regions.proofs.stacks.stacks_above.Given as goal

abbrev pub invariant-loop-id : goal.invariant-loop-id
invariant-loop-id l = l.stacks.items ≡ take l.id-index l.id-items
