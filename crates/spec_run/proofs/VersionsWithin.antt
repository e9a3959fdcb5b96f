-- Where nothing was done the document is its only version.
use Rattle.std.proofs.Common.{zero, suc, []}
use Rattle.spec_document.specs.Document.{Document}
use Rattle.spec_document.specs.Limits.{IsDocument}
use Rattle.spec_run.specs.Versions.{AreWithin}

pub first_within : (d : Document) → IsDocument d → AreWithin d []
first_within d within zero = within
first_within d within (suc version) = within
