use Rattle.std.proofs.Common.{◌≡◌, ◌-◌, length, map}
use Rattle.xl_filters.specs.Chests.{states_in}
use Rattle.xl_audit.specs.Auditing.{padded}
use Rattle.xl_audit.proofs.verdict.add_desks.Given as goal

abbrev pub invariant-loop-alloc : goal.invariant-loop-alloc
invariant-loop-alloc g l =
    padded (map (λ d. states_in (λ b. (goal.PointFilter-dyn g b).state b.1) d.chest) l.desks.items)
    ≡ padded (map (λ d. states_in (λ b. (goal.PointFilter-dyn g b).state b.1) d.chest) l.fn.desks.items)

abbrev pub decreases-loop-alloc : goal.decreases-loop-alloc
decreases-loop-alloc g l = 8 - length l.desks.items
