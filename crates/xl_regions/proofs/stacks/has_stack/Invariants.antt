use Rattle.std.proofs.Common.{◌≡◌, take, eqb, false}
use Rattle.std.specs.List.{list_any}
use Rattle.xl_regions.specs.Pairs.{numbers}
use Rattle.xl_regions.proofs.stacks.has_stack.Given as goal

abbrev pub invariant-loop-other : goal.invariant-loop-other
invariant-loop-other l = list_any (λ m. eqb m l.stack.0) (numbers (take l.other-index l.stacks)) ≡ false
