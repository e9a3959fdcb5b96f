-- The versions of a document after a history.
use Rattle.std.specs.Prelude.{ℕ, List}
use Rattle.spec_document.specs.Document.{Document}
use Rattle.spec_document.specs.Limits.{IsDocument}
use Rattle.spec_history.specs.History.{Entry, document_of}

-- each is within the limits, so that what is written for it holds a document
abbrev pub AreWithin : Document → List Entry → Type 0
AreWithin base es = (version : ℕ) → IsDocument (document_of base es version)
