use Rattle.std.proofs.Common.{arith}
use Rattle.spec_document.proofs.ByteLists.{are_bytes}
use Rattle.xl_read.proofs.Decoded.{read_limits}
use Rattle.xl_read.proofs.file.whole.Goals as goal

pub finish-requires : goal.finish-requires
finish-requires g c =
    read_limits c.args.bytes.now c.read.result c.in_ok-draft.draft
    (are_bytes c.args.bytes.now (λ i. omega (arith, c.type_inv.bytes i))) c.read.ensures c.in_ok-draft.was
