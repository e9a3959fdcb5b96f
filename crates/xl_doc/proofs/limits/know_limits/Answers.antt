use Rattle.std.proofs.Common.{subst}
use Rattle.spec_document.specs.Limits.{IsDocument}
use Rattle.xl_doc.proofs.limits.know_limits.Goals as goal

pub returns : goal.returns
returns c = subst IsDocument c.doc.view_is c.doc.invariant.limits
