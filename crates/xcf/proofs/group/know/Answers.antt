use Rattle.std.proofs.Common.{subst}
use Rattle.spec_document.specs.Limits.{AreBytes}
use Rattle.xcf.proofs.group.know.Goals as goal

pub returns : goal.returns
returns c = subst AreBytes c.as_slice.ensures c.know_bytes.ensures
