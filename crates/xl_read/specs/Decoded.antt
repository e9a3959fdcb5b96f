-- What decoding a file answers.
use Rattle.std.specs.Prelude.{◌≡◌, ℕ, List, Result, IfOk}
use Rattle.spec_document.specs.Document.{Document}
use Rattle.spec_document.specs.Limits.{IsDocument}
use Rattle.spec_file.specs.Holds.{Holds}
use Rattle.spec_file.specs.Reading.{reading}
use Rattle.xl_doc.specs.Numbered.{AreNumbered}
use Rattle.xl_fields.specs.declared.refusal.ReadRefusedOrMemory.{ReadRefusedOrMemory}
use Rattle.xl_fields.specs.Gives.{Gives}
use Rattle.xl_read.specs.Yields.{OnRefused}

-- the one document that the file holds, or its first fault, or memory ran out
pub record IsDecoded (file : List ℕ) (answer : Result Document ReadRefusedOrMemory) : Type 0 where
  pub exact : Gives answer (reading file)
  pub held : IfOk answer (λ document. Holds file document)
  pub only : IfOk answer (λ document. (other : Document) → Holds file other → other ≡ document)
  pub refused : OnRefused answer ((document : Document) → ¬ (Holds file document))
  pub limits : IfOk answer (λ document. IsDocument document)
  pub numbered : IfOk answer (λ document. AreNumbered document.nodes)
