use Rattle.std.proofs.Common.{take}
use Rattle.xl_regions.specs.Pairs.{numbers, copies, Adds}
use Rattle.xl_regions.proofs.stacks.add_copies.Given as goal

abbrev pub invariant-loop-stack : goal.invariant-loop-stack
invariant-loop-stack l = Adds l.initial.list.items l.list.items (copies l.rect (numbers (take l.stack-index l.stacks)))
