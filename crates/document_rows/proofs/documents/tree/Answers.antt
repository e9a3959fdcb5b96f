use Rattle.std.proofs.Common.{arith, refl}
use Rattle.document_rows.proofs.documents.tree.Goals as goal

pub put_last-requires-clause-new : goal.put_last-requires-clause-new
put_last-requires-clause-new c = rw c.in_ok-tree.ensures (record { positive = omega arith; nowhere = refl })
