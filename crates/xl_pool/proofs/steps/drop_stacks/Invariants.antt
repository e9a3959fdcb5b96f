use Rattle.xl_pool.proofs.Turns.{HaveGone}
use Rattle.xl_pool.proofs.steps.drop_stacks.Given as goal

abbrev pub invariant-loop-stack : goal.invariant-loop-stack
invariant-loop-stack l = HaveGone l.stacks l.stack-index l.initial.cache l.initial.pool l.cache l.pool
