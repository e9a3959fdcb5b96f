use Rattle.std.proofs.Common.{arith}
use Rattle.xl_tree.proofs.Deepest.{deepest_step, deepest_end}
use Rattle.xl_tree.proofs.entries.deepest.Goals as goal

pub loop-entry-preserved : goal.loop-entry-preserved
loop-entry-preserved g c =
    deepest_step c.args.entries.now c.loop-entry.entry-index c.loop-entry.level c.max-level.result c.entry-item.result
    c.loop-entry.invariant (omega arith) c.entry-item.is c.max-level.ensures

pub returns : goal.returns
returns g c = omega (arith, c.loop-entry.invariant, deepest_end c.args.entries.now c.loop-entry.entry-index (omega arith))
