use Rattle.std.proofs.Common.{arith}
use Rattle.xl_bytes.proofs.Parts.{bytes_more}
use Rattle.xl_bytes.proofs.storing.append_parts.Goals as goal

pub loop-part-preserved : goal.loop-part-preserved
loop-part-preserved c =
    let added = rw c.as_slice.ensures at c.in_ok-extend_from_slice.ensures.items in
    bytes_more c.args.out.now.items c.loop-part.out.items c.extend_from_slice.new.self.items c.args.parts.now c.loop-part.part-index
    c.part-item.result (omega arith) c.loop-part.invariant c.part-item.is added
