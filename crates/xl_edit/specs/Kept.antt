-- What a change keeps of a document.
use Rattle.spec_document.specs.Document.{Document}
use Rattle.spec_document.specs.Limits.{IsDocument}

-- where the old document is within its limits, the new one is
abbrev pub KeepsLimits : (old new : Document) → Type 0
KeepsLimits old new = IsDocument old → IsDocument new
