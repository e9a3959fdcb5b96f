-- What the applying of an edit comes to.
use Rattle.std.specs.Prelude.{◌≡◌, ℕ, List, Option, Some, Result, Ok, Err}
use Rattle.spec_edit.specs.declared.EditRefused.{EditRefused}
use Rattle.spec_document.specs.Document.{Document}
use Rattle.spec_edit.specs.Edit.{Edit}
use Rattle.spec_edit.specs.Apply.{At, apply}
use Rattle.xl_paint.specs.declared.refused.EditRefusedOrMemory.{EditRefusedOrMemory}
use Rattle.xl_paint.specs.declared.refused.EditRefusedOrMemory.TheVariants.{Memory, Refused}

-- a document, and the id that the next new node gets
abbrev pub at : Document → (next : ℕ) → At
at document next = record { document = document; next = next }

-- The edit is applied whole with this table, or it is refused or memory ran out, and all is as before.
abbrev pub Applies : (old new : At) → Edit → (table : List ℕ) → Result (Unit {0}) EditRefusedOrMemory → Type 0
Applies old new edit table (Ok done) = apply old edit table ≡ Ok new
Applies old new edit table (Err (Refused cause)) = (apply old edit table ≡ Err cause) × (new ≡ old)
Applies old new edit table (Err Memory) = new ≡ old

-- why an edit was not applied, if memory did not run out
abbrev pub IsCause : Option EditRefused → EditRefusedOrMemory → Type 0
IsCause refusal Memory = Unit {0}
IsCause refusal (Refused cause) = refusal ≡ Some cause

-- an edit that takes no id is applied whole with this table, or it is refused or memory ran out, and the document is as before
abbrev pub MakesBy : (table : List ℕ) → (old new : Document) → Edit → Result (Unit {0}) EditRefusedOrMemory → Type 0
MakesBy table old new edit result = (next : ℕ) → Applies (at old next) (at new next) edit table result

-- so it is with any table
abbrev pub Makes : (old new : Document) → Edit → Result (Unit {0}) EditRefusedOrMemory → Type 0
Makes old new edit result = (table : List ℕ) → MakesBy table old new edit result
