use Rattle.std.proofs.Common.{rules}
use Rattle.xl_read.proofs.Branches.{layer_made}
use Rattle.xl_read.proofs.layer.layer_body.Goals as goal

pub returns-clause-read : goal.returns-clause-read
returns-clause-read g c =
    layer_made c.args.file.now c.args.draft.now c.args.head.now c.in_ok-plane.plane c.in_ok-mask.mask c.layer_of.result
    c.layer_of.ensures (search rules) (search rules) (search rules)
