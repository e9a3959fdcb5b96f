use Rattle.std.proofs.Common.{take, eqb}
use Rattle.std.specs.Prelude.{not, filter}
use Rattle.std.specs.List.{list_any}
use Rattle.xl_regions.specs.Pairs.{numbers, copies, Adds}
use Rattle.xl_regions.proofs.stacks.add_other_copies.Given as goal

abbrev pub invariant-loop-stack : goal.invariant-loop-stack
invariant-loop-stack l =
    Adds l.initial.list.items l.list.items
    (copies l.rect (filter (λ n. not (list_any (λ m. eqb m n) (numbers l.before))) (numbers (take l.stack-index l.stacks))))
