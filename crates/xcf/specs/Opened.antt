-- What comes of the bytes of a file.
use Rattle.std.specs.Prelude.{◌≡◌, ◌<◌, ◌≤◌, ℕ, List, [], length, Result, Ok, Err}
use Rattle.spec_document.specs.Document.{Document}
use Rattle.spec_document.specs.Ids.{next_id}
use Rattle.spec_edit.specs.Apply.{At}
use Rattle.spec_file.specs.declared.TheConstants.{FILE_LIMIT}
use Rattle.spec_file.specs.Reading.{reading}
use Rattle.xl_core.specs.History.{History}
use Rattle.xcf.specs.declared.errors.NotOpened.{NotOpened}
use Rattle.xcf.specs.declared.errors.NotOpened.TheVariants.{Memory, TooLong, Refused}

-- the document that the file holds, or its first fault; a file of more than FILE_LIMIT bytes is too long for a look
abbrev pub Opens : {A : Type 0} → (file : List ℕ) → (document_in : A → Document) → Result A NotOpened → Type 0
Opens file document_in (Ok opened) = (length file ≤ FILE_LIMIT) × (reading file ≡ Ok (document_in opened))
Opens file document_in (Err (Refused fault)) = (length file ≤ FILE_LIMIT) × (reading file ≡ Err fault)
Opens file document_in (Err TooLong) = FILE_LIMIT < length file
Opens file document_in (Err Memory) = Unit {0}

-- an image without edits: the next id is one above the greatest
abbrev pub image_of : Document → At
image_of document = record { document = document; next = next_id document }

-- a history without entries
abbrev pub history_of : Document → History
history_of document = record { base = document; entries = [] }
