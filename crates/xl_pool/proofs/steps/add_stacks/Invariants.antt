use Rattle.xl_pool.proofs.Turns.{HaveCome}
use Rattle.xl_pool.proofs.steps.add_stacks.Given as goal

abbrev pub invariant-loop-stack : goal.invariant-loop-stack
invariant-loop-stack l = HaveCome l.stacks l.stack-index l.version l.initial.cache l.initial.pool l.cache l.pool
