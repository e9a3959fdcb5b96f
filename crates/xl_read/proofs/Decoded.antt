-- What is said of reading, of what a call of it gave.
use Rattle.std.proofs.Common.{◌≡◌, ℕ, List, subst}
use Rattle.std.specs.Prelude.{Result, Ok, Err, IfOk}
use Rattle.spec_document.specs.Document.{Document}
use Rattle.spec_document.specs.Limits.{AreBytes, IsDocument}
use Rattle.spec_file.specs.Holds.{Holds}
use Rattle.spec_file.specs.Reading.{reading}
use Rattle.spec_file.proofs.HoldsRead.{holds_read, holds_one}
use Rattle.spec_file.proofs.ReadHeld.{read_held}
use Rattle.spec_file.proofs.HeldDocument.{held_document}
use Rattle.xl_doc.specs.Numbered.{AreNumbered}
use Rattle.xl_fields.specs.declared.refusal.ReadRefusedOrMemory.{ReadRefusedOrMemory}
use Rattle.xl_fields.specs.declared.refusal.ReadRefusedOrMemory.TheVariants.{Memory, Refused}
use Rattle.xl_fields.specs.Gives.{Gives}
use Rattle.xl_read.specs.Yields.{OnRefused}
use Rattle.xl_read.proofs.NumberedNodes.{numbered_nodes}

module _ (file : List ℕ) where
  pub held : (r : Result Document ReadRefusedOrMemory) → AreBytes file → Gives r (reading file) → IfOk r (λ d. Holds file d)
  held (Ok d) bytes e = read_held file d bytes e
  held (Err x) bytes e = tt

  pub only : (r : Result Document ReadRefusedOrMemory) → AreBytes file → Gives r (reading file)
      → IfOk r (λ d. (other : Document) → Holds file other → other ≡ d)
  only (Ok d) bytes e = λ other h. holds_one file other d h (read_held file d bytes e)
  only (Err x) bytes e = tt

  pub refused : (r : Result Document ReadRefusedOrMemory) → Gives r (reading file) → OnRefused r ((d : Document) → ¬ (Holds file d))
  refused (Ok d) e = tt
  refused (Err Memory) e = tt
  refused (Err (Refused x)) e = λ d h. let read : reading file ≡ Ok d = holds_read file d h in cc

  pub limits : (r : Result Document ReadRefusedOrMemory) → AreBytes file → Gives r (reading file) → IfOk r (λ d. IsDocument d)
  limits (Ok d) bytes e = held_document file d bytes (read_held file d bytes e)
  limits (Err x) bytes e = tt

  pub read_limits : (r : Result Document ReadRefusedOrMemory) (d : Document) → AreBytes file → Gives r (reading file) → r ≡ Ok d
      → IsDocument d
  read_limits (Ok e) d bytes gives is = let same : e ≡ d = cc in subst IsDocument same (limits (Ok e) bytes gives)
  read_limits (Err x) d bytes gives is = cc

  pub numbered : (r : Result Document ReadRefusedOrMemory) → AreBytes file → Gives r (reading file)
      → IfOk r (λ d. AreNumbered d.nodes)
  numbered (Ok d) bytes e = numbered_nodes file d bytes (read_held file d bytes e)
  numbered (Err x) bytes e = tt
