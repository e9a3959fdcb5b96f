-- What becomes of a file that is packed, and what is written then.
use Rattle.std.specs.Prelude.{◌≡◌, ℕ, Bool, List, Option, IfSome}
use Rattle.spec_document.specs.Document.{Document}
use Rattle.spec_document.specs.Limits.{IsDocument}
use Rattle.spec_saves.specs.Shelf.{file_name}
use Rattle.spec_shortest.specs.Lines.{IsPackText}
use Rattle.xl_pack.specs.Saving.{HasSmallest, MayHaveSmallest}
use Rattle.xl_ports.specs.Faults.{Rose}
use Rattle.xl_ports.specs.Shelf.{Content}
use Rattle.xl_ports.specs.State.{ShelfState}
use Rattle.xl_outcome.specs.Files.{HoldsDocument, HasLength}

-- A document within the limits, which the file of this length held, where its content is told, is saved in a smallest file, and its
-- text is that of the lengths before and after.
pub record IsPacked (content : Option Content) (opening now : ShelfState) (with_plans : Bool) (out : List ℕ) : Type 0 where
  pub document : Document
  pub held : IfSome content (λ c. HoldsDocument c document)
  pub within : IsDocument document
  pub before : ℕ
  pub length_before : IfSome content (λ c. HasLength c before)
  pub after : ℕ
  pub saved : HasSmallest (file_name opening) document after opening.disk now.disk
  pub reading : now.reading ≡ opening.reading
  pub saving : now.saving ≡ opening.saving
  pub text : IsPackText document with_plans before after out

-- a fault, which is counted, stopped the save of a smallest file of the document, which the file held where its content is told
pub record MayBePacked (content : Option Content) (opening now : ShelfState) : Type 0 where
  pub document : Document
  pub held : IfSome content (λ c. HoldsDocument c document)
  pub within : IsDocument document
  pub reading : now.reading ≡ opening.reading
  pub saving : Rose opening.saving now.saving
  pub saved : MayHaveSmallest (file_name opening) document opening.disk now.disk
