-- Which contents the names of a file stand for.
use Rattle.std.specs.Prelude.{◌⊎◌, ℕ, List, [], ◌∷◌, Contains}
use Rattle.spec_document.specs.Document.{Document}
use Rattle.spec_layout.specs.Layout.{Written}
use Rattle.spec_history.specs.History.{Entry, document_of}
use Rattle.xl_ports.specs.Shelf.{Content, absent, file}
use Rattle.xl_ports.specs.Disk.{Disk, MayLeave}
use Rattle.spec_saves.specs.Names.{Named, the_old, version, saved_versions}

-- a file that is written for the document of this version
abbrev pub IsVersion : Document → List Entry → (v : ℕ) → Content → Type 0
IsVersion base es v absent = ⊥
IsVersion base es v (file bytes) = Written bytes (document_of base es v)

-- a file of a version that an ended save may have left
pub record IsSaved (base : Document) (es : List Entry) (c : Content) : Type 0 where
  pub v : ℕ
  pub left : Contains (saved_versions es) v
  pub is : IsVersion base es v c

-- the old file is what a crash at the opening may have left
abbrev pub IsNamed : Document → List Entry → (opened : Disk) → (name : List ℕ) → Content → Named → Type 0
IsNamed base es opened name c the_old = MayLeave opened name c
IsNamed base es opened name c (version v) = IsVersion base es v c

-- one of the names stands for the content
abbrev pub IsIn : Document → List Entry → (opened : Disk) → (name : List ℕ) → Content → List Named → Type 0
IsIn base es opened name c [] = ⊥
IsIn base es opened name c (n ∷ ns) = IsNamed base es opened name c n ⊎ IsIn base es opened name c ns
