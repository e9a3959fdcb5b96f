use Rattle.std.proofs.Common.{ap, arith}
use Rattle.xl_write.proofs.Counting.{items_count}
use Rattle.xl_write.proofs.encoding.pointer_count.Goals as goal

pub returns-clause-value : goal.returns-clause-value
returns-clause-value c =
    omega (
      arith,
      c.len.ensures.len,
      c.sheet_count.ensures.value,
      items_count c.args.doc.now c.doc.inside.tree (ap (λ d. d.nodes) c.doc.view_is),
    )
