-- What is written of a script that is viewed.
use Rattle.std.specs.Prelude.{◌≡◌, ℕ, List, length, Option, IfSome, Ok, Err}
use Rattle.spec_document.specs.Document.{Document}
use Rattle.spec_document.specs.Limits.{IsDocument}
use Rattle.spec_filters.specs.declared.FilterState.{FilterState}
use Rattle.spec_script.specs.Script.{Line}
use Rattle.spec_view.specs.Script.{view_script}
use Rattle.spec_view.specs.Text.{Views}
use Rattle.xl_ports.specs.Shelf.{Content}
use Rattle.xl_outcome.specs.Files.{HoldsDocument}

-- the script may be viewed, where it is told, and has these lines of session 0, which has these filters
abbrev pub HasViewLines : (left : Option (List ℕ)) → (filters : List FilterState) → List Line → Type 0
HasViewLines left filters lines = IfSome left (λ text. view_script text (length filters) ≡ Ok lines)

-- the script may be viewed, where it is told
abbrev pub IsViewScript : (left : Option (List ℕ)) → (filters : List FilterState) → Type 0
IsViewScript left filters = (lines : List Line) × HasViewLines left filters lines

-- the script is refused at this line, where it is told
abbrev pub IsBadViewLine : (left : Option (List ℕ)) → (filters : List FilterState) → (number : ℕ) → Type 0
IsBadViewLine left filters number = IfSome left (λ text. view_script text (length filters) ≡ Err number)

-- the text of such a script on a document within the limits, which the file holds where its content is told, in windows of so many
-- columns and rows
pub record IsViewed
    (left : Option (List ℕ)) (filters : List FilterState) (content : Option Content) (cols rows : ℕ) (out : List ℕ)
    : Type 0 where
  pub document : Document
  pub lines : List Line
  pub held : IfSome content (λ c. HoldsDocument c document)
  pub within : IsDocument document
  pub read : HasViewLines left filters lines
  pub text : Views out document lines filters cols rows
