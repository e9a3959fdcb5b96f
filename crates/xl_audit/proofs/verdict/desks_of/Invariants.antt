use Rattle.std.proofs.Common.{◌≡◌, ◌++◌, map}
use Rattle.xl_filters.specs.Chests.{states_in}
use Rattle.xl_audit.proofs.verdict.desks_of.Given as goal

abbrev pub invariant-loop-chest : goal.invariant-loop-chest
invariant-loop-chest g l =
    map (λ d. states_in (λ b. (goal.PointFilter-dyn g b).state b.1) d.chest) l.desks.items
    ++ map (λ c. states_in (λ b. (goal.PointFilter-dyn g b).state b.1) c) l.chest-iterator.rest.items
    ≡ map (λ c. states_in (λ b. (goal.PointFilter-dyn g b).state b.1) c) l.fn.chests.items
