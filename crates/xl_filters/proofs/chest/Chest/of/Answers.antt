use Rattle.std.proofs.Common.{arith}
use Rattle.xl_filters.proofs.States.{all_put}
use Rattle.xl_filters.proofs.chest.Chest.of.Goals as goal

pub returns : goal.returns
returns g c = all_put (λ b. record { filter = b }) _ _ _ _
    (omega (arith, c.in-None.ensures.steps, c.loop-filter.filter-iterator.rest.ok)) c.loop-filter.invariant.put
