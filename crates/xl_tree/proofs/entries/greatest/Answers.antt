use Rattle.std.proofs.Common.{arith}
use Rattle.xl_tree.proofs.Ids.{greatest_step, greatest_end}
use Rattle.xl_tree.proofs.entries.greatest.Goals as goal

pub loop-entry-preserved : goal.loop-entry-preserved
loop-entry-preserved g c =
    greatest_step c.args.entries.now c.loop-entry.entry-index c.loop-entry.greatest c.max-greatest.result _ c.entry-item.result
    c.loop-entry.invariant (omega arith) c.entry-item.is c.max-greatest.ensures

pub returns : goal.returns
returns g c = greatest_end c.args.entries.now c.loop-entry.entry-index c.loop-entry.greatest _ (omega arith) c.loop-entry.invariant
