-- What becomes of a file whose image is made flat, and what is written then.
use Rattle.std.specs.Prelude.{◌≡◌, ℕ, List, [], ◌∷◌, ◌++◌, codes, Option, Some, None, IfSome, Result, Ok, Err}
use Rattle.spec_document.specs.Document.{Document, renumber}
use Rattle.spec_document.specs.Limits.{IsDocument}
use Rattle.spec_document.specs.Ids.{next_id}
use Rattle.spec_file.specs.Reading.{reading}
use Rattle.spec_flat.specs.Flat.{flat_refusal}
use Rattle.spec_flat.specs.Flattened.{flat_document, BecomesFlat}
use Rattle.spec_layout.specs.Layout.{Written}
use Rattle.spec_saves.specs.Shelf.{file_name}
use Rattle.spec_world.specs.declared.SaveEnd.{SaveEnd}
use Rattle.spec_world.specs.declared.SaveEnd.TheVariants.{Done, Fault}
use Rattle.xl_ports.specs.Shelf.{Content, file}
use Rattle.xl_ports.specs.Disk.{Disk}
use Rattle.xl_ports.specs.Sink.{WritesAll, WritesPart}
use Rattle.xl_ports.specs.State.{ShelfState}
use Rattle.xl_outcome.specs.Files.{HoldsDocument}
use Rattle.xl_outcome.specs.declared.stopped.Stopped.{Stopped}
use Rattle.xl_outcome.specs.declared.stopped.Stopped.TheVariants.{SourceFault, BadHead, BadLine, ShelfFault, Refused}
use Rattle.xl_outcome.specs.declared.stopped.Stopped.TheVariants.{NotFlattened, SaveFault, Rejected, SinkFault, Memory}
use Rattle.xl_snapshot.specs.Saving.{IsSavedOn}

-- the image with one layer, which has the id after all others, in the place of its nodes
abbrev pub made_flat : Document → Document
made_flat d = flat_document d (next_id d)

-- a read gives a file of the image made flat, which is read back as that, with the ids 1, 2 and so on
pub record HasFlat (name : List ℕ) (d : Document) (now : Disk) : Type 0 where
  pub bytes : List ℕ
  pub read : now.read name ≡ file bytes
  pub written : Written bytes (made_flat d)
  pub decoded : reading bytes ≡ Ok (renumber (made_flat d))

-- A document within the limits that may be made flat, which the file held where its content is told. Made flat it shows what it
-- showed, and its save ended so.
pub record IsFlatSave (content : Option Content) (opening now : ShelfState) (how : SaveEnd) : Type 0 where
  pub document : Document
  pub held : IfSome content (λ c. HoldsDocument c document)
  pub within : IsDocument document
  pub allowed : flat_refusal document ≡ None
  pub becomes : BecomesFlat document (next_id document)
  pub saved : IsSavedOn opening (made_flat document) how now

-- the line that tells of it names the version that was made
abbrev pub flattened_line : List ℕ
flattened_line = codes "flattened 1" ++ 10 ∷ []

-- the save is done, and the line is written
pub record IsFlattened (content : Option Content) (opening now : ShelfState) (out : List ℕ) : Type 0 where
  pub flat : IsFlatSave content opening now Done
  pub file : IfSome now.disk (HasFlat (file_name opening) flat.document)
  pub text : out ≡ flattened_line

-- a fault stopped the save: at each moment a crash leaves what it left before, or a file of the image made flat
abbrev pub MayBeFlattened : (content : Option Content) → (opening now : ShelfState) → Type 0
MayBeFlattened content opening now = IsFlatSave content opening now Fault

-- ---- the parts of it

-- a file of the image made flat, of a document that may be made so; it shows what the document showed
pub record IsFlatFile (d : Document) (bytes : List ℕ) : Type 0 where
  pub allowed : flat_refusal d ≡ None
  pub becomes : BecomesFlat d (next_id d)
  pub written : Written bytes (made_flat d)

-- the file, or the first cause that keeps the image from being made flat
abbrev pub GivesFlatFile : Document → Result (List ℕ) Stopped → Type 0
GivesFlatFile d (Ok bytes) = IsFlatFile d bytes
GivesFlatFile d (Err (NotFlattened why)) = flat_refusal d ≡ Some why
GivesFlatFile d (Err Memory) = Unit {0}
GivesFlatFile d (Err SourceFault) = ⊥
GivesFlatFile d (Err BadHead) = ⊥
GivesFlatFile d (Err (BadLine bad)) = ⊥
GivesFlatFile d (Err ShelfFault) = ⊥
GivesFlatFile d (Err (Refused why)) = ⊥
GivesFlatFile d (Err SaveFault) = ⊥
GivesFlatFile d (Err (Rejected why)) = ⊥
GivesFlatFile d (Err SinkFault) = ⊥

module _ {K : Type 0} (held : K → Option (List ℕ)) (faults : K → ℕ) where
  -- a document is saved and the line written; or a fault stopped the save, or one of the sink came while the line was written
  abbrev pub SavesAndTells : Document → (opening now : ShelfState) → (old new : K) → Result (Unit {0}) Stopped → Type 0
  SavesAndTells d opening now old new (Ok x) = IsSavedOn opening d Done now × WritesAll held faults old new flattened_line
  SavesAndTells d opening now old new (Err ShelfFault) = IsSavedOn opening d Fault now × (new ≡ old)
  SavesAndTells d opening now old new (Err SinkFault) =
      IsSavedOn opening d Done now × WritesPart held faults old new flattened_line
  SavesAndTells d opening now old new (Err SourceFault) = ⊥
  SavesAndTells d opening now old new (Err BadHead) = ⊥
  SavesAndTells d opening now old new (Err (BadLine bad)) = ⊥
  SavesAndTells d opening now old new (Err (Refused why)) = ⊥
  SavesAndTells d opening now old new (Err (NotFlattened why)) = ⊥
  SavesAndTells d opening now old new (Err SaveFault) = ⊥
  SavesAndTells d opening now old new (Err (Rejected why)) = ⊥
  SavesAndTells d opening now old new (Err Memory) = ⊥
