-- The jobs that are out stay right.
use Rattle.core_rows.proofs.Outs.{all_stay}
use Rattle.core_rows.proofs.bench.Bench.ask.Goals as goal

pub invariant_of-self : goal.invariant_of-self
invariant_of-self c = all_stay _ _ _ c.submit.ensures c.self.invariant

pub invariant_of-self-2 : goal.invariant_of-self-2
invariant_of-self-2 c = all_stay _ _ _ c.submit.ensures c.self.invariant
