use Rattle.std.proofs.Common.{◌∙◌, ap, arith, length}
use Rattle.xl_read.proofs.Payloads.{passed_next}
use Rattle.xl_read.proofs.kept.within.Goals as goal

pub loop-i-preserved : goal.loop-i-preserved
loop-i-preserved c =
    passed_next c.args.before c.as_slice-property-items.result.now c.as_slice-places.result.now c.loop-i.i c.loop-i.total
    c.len-bytes.result c.property-item.result
    c.loop-i.invariant (omega arith) c.property-item.is (c.len-bytes.ensures
    ∙ ap (λ k. length k.payload) c.property.view_is) (omega arith)
