use Rattle.std.proofs.Common.{arith}
use Rattle.xl_play.proofs.OfFirst.{all_of_first}
use Rattle.xl_play.proofs.script_runs.is_alone.Goals as goal

pub returns-clause-alone : goal.returns-clause-alone
returns-clause-alone c =
    let none = c.if-workers-gt0.false in
    let over = c.loop-session-test.false in
    λ yes. (
      omega (arith, none),
      all_of_first c.args.script.now c.requires
          (λ n above below. c.loop-session.invariant n above (omega (arith, below, over))),
    )
