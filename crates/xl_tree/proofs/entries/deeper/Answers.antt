use Rattle.std.proofs.Common.{arith}
use Rattle.xl_tree.proofs.Below.{below_more, below_stop, below_end}
use Rattle.xl_tree.proofs.entries.deeper.Goals as goal

pub loop-at-preserved : goal.loop-at-preserved
loop-at-preserved g c =
    omega (
      arith,
      below_more c.args.level c.args.entries.now c.loop-at.at c.index-entries-at.result
          (omega arith) c.index-entries-at.is (omega arith),
    )

pub returns-then-entry-level : goal.returns-then-entry-level
returns-then-entry-level g c =
    omega (
      arith,
      below_stop c.args.level c.args.entries.now c.loop-at.at c.index-entries-at.result
          (omega arith) c.index-entries-at.is (omega arith),
    )

pub returns : goal.returns
returns g c = omega (arith, below_end c.args.level c.args.entries.now c.loop-at.at (omega arith))
