use Rattle.std.proofs.Common.{subst}
use Rattle.spec_document.specs.Limits.{AreBytes}
use Rattle.xl_desk.proofs.bytes.know_table.Goals as goal

pub returns : goal.returns
returns c = subst AreBytes c.as_slice.ensures.value c.know_bytes.ensures
