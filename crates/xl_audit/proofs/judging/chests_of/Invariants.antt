use Rattle.std.proofs.Common.{length, ◌<◌, ◌^◌}
use Rattle.xl_filters.specs.Chests.{states_in}
use Rattle.xl_audit.proofs.Chests.{AreUpTo}
use Rattle.xl_audit.proofs.judging.chests_of.Given as goal

abbrev pub invariant-loop-boxes : goal.invariant-loop-boxes
invariant-loop-boxes g l =
    AreUpTo (λ c. states_in (λ b. (goal.PointFilter-dyn g b).state b.1) c)
    (λ b. (goal.PointFilter-dyn g (b.vtable, b.value)).state b.value) (λ boxes. length boxes.items < 2 ^ 32)
    l.chests.items l.boxes-iterator.rest.items l.fn.lists.items
