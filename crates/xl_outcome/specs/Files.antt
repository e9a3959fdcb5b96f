-- What a file holds, where there is one.
use Rattle.std.specs.Prelude.{◌≡◌, ℕ, length, Some}
use Rattle.spec_document.specs.Document.{Document}
use Rattle.spec_fields.specs.declared.ReadRefused.{ReadRefused}
use Rattle.spec_file.specs.Holds.{Holds}
use Rattle.spec_file.specs.Reading.{first_fault}
use Rattle.spec_flat.specs.declared.FlatRefused.{FlatRefused}
use Rattle.spec_flat.specs.Flat.{flat_refusal}
use Rattle.xl_ports.specs.Shelf.{Content, absent, file}

-- the file is there and holds the document
abbrev pub HoldsDocument : Content → Document → Type 0
HoldsDocument absent d = ⊥
HoldsDocument (file bytes) d = Holds bytes d

-- the file is there and has so many bytes
abbrev pub HasLength : Content → ℕ → Type 0
HasLength absent n = ⊥
HasLength (file bytes) n = n ≡ length bytes

-- the file is there and holds no document: this is its first fault
abbrev pub HasFault : Content → ReadRefused → Type 0
HasFault absent why = ⊥
HasFault (file bytes) why = first_fault bytes ≡ Some why

-- the file is there and holds a document that cannot be made flat: this is the first cause
abbrev pub CannotBeFlat : Content → FlatRefused → Type 0
CannotBeFlat content why = (d : Document) × HoldsDocument content d × (flat_refusal d ≡ Some why)
