-- What comes of a file of the system, whose bytes are not known.
use Rattle.std.specs.Prelude.{ℕ, List, Result, Ok, Err}
use Rattle.spec_document.specs.Document.{Document}
use Rattle.xcf.specs.Opened.{Opens}
use Rattle.xcf_disk.specs.declared.errors.Failure.{Failure}
use Rattle.xcf_disk.specs.declared.errors.Failure.TheVariants.{Memory, System, NotOpened, NotEdited, NotShown, NotSaved}

-- there are bytes of which this came, by the rules of a file; or none could be read
abbrev pub OpensFile : {A : Type 0} → (document_in : A → Document) → Result A Failure → Type 0
OpensFile document_in (Ok opened) = (file : List ℕ) × Opens file document_in (Ok opened)
OpensFile document_in (Err (NotOpened flaw)) = (file : List ℕ) × Opens file document_in (Err flaw)
OpensFile document_in (Err (System said)) = Unit {0}
OpensFile document_in (Err Memory) = ⊥
OpensFile document_in (Err (NotEdited flaw)) = ⊥
OpensFile document_in (Err (NotShown flaw)) = ⊥
OpensFile document_in (Err (NotSaved said)) = ⊥

-- memory ran out, or the system said why
abbrev pub IsOfSaving : Failure → Type 0
IsOfSaving Memory = Unit {0}
IsOfSaving (NotSaved said) = Unit {0}
IsOfSaving (System said) = ⊥
IsOfSaving (NotOpened flaw) = ⊥
IsOfSaving (NotEdited flaw) = ⊥
IsOfSaving (NotShown flaw) = ⊥
