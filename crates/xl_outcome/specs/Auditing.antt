-- What is told of an output that is audited.
use Rattle.std.specs.Prelude.{◌≡◌, ℕ, List, length, map, Option, IfSome, Ok}
use Rattle.xl_printed.specs.Answers.{verdict_line}
use Rattle.spec_audit.specs.Verdicts.{IsExact}
use Rattle.spec_audit.specs.declared.Verdict.{Verdict}
use Rattle.spec_audit.specs.declared.Verdict.TheVariants as verdicts
use Rattle.spec_audit.specs.declared.Verdict.TheVariants.{Accepted}
use Rattle.spec_document.specs.Document.{Document}
use Rattle.spec_document.specs.Limits.{IsDocument}
use Rattle.spec_filters.specs.declared.FilterState.{FilterState}
use Rattle.spec_script.specs.Script.{Line, script}
use Rattle.xl_ports.specs.Shelf.{Content}
use Rattle.xl_outcome.specs.Endings.{Ending, well, unsaved, rejected, in_part}
use Rattle.xl_outcome.specs.Files.{HoldsDocument}
use Rattle.xl_printed.specs.Reading.{HasParts, IsBadLineBehind}
use Rattle.xl_printed.specs.declared.answers.Rejection.{Rejection}
use Rattle.xl_printed.specs.declared.answers.Rejection.TheVariants as rejections

-- the source has a script with these lines and this output behind its head
abbrev pub HasAudit : (left : Option (List ℕ)) → (chests : List (List FilterState)) → (lists : List (List Line)) → (output : List ℕ)
    → Type 0
HasAudit left chests lists output = (text : List ℕ) × HasParts left text output × (script text (map length chests) ≡ Ok lists)

abbrev pub IsAuditScript : (left : Option (List ℕ)) → (chests : List (List FilterState)) → Type 0
IsAuditScript left chests = (lists : List (List Line)) × (output : List ℕ) × HasAudit left chests lists output

-- the script behind the head is refused at this line
abbrev pub IsBadAuditLine : (left : Option (List ℕ)) → (chests : List (List FilterState)) → (number : ℕ) → Type 0
IsBadAuditLine left chests number = IsBadLineBehind left (map length chests) number

-- the verdict to which an audit may come with such an end
abbrev pub HasVerdict : Ending → Verdict → Type 0
HasVerdict well verdict = verdict ≡ Accepted
HasVerdict unsaved verdict = ⊥
HasVerdict rejected verdict = verdict ≡ Accepted → ⊥
HasVerdict in_part verdict = Unit {0}

-- the line of the verdict that rejects for this reason
abbrev pub rejection_line : Rejection → List ℕ
rejection_line rejections.Shape = verdict_line verdicts.Shape
rejection_line (rejections.Reply session index) = verdict_line (verdicts.Reply session index)

-- The line of the verdict on the output behind the head, by its script, on a document within the limits which the file holds where
-- its content is told. The verdict is exact.
pub record IsAudited
    (left : Option (List ℕ)) (chests : List (List FilterState)) (content : Option Content) (ending : Ending) (out : List ℕ)
    : Type 0 where
  pub document : Document
  pub lists : List (List Line)
  pub output : List ℕ
  pub verdict : Verdict
  pub held : IfSome content (λ c. HoldsDocument c document)
  pub within : IsDocument document
  pub read : HasAudit left chests lists output
  pub exact : IsExact (record { base = document; scripts = lists; chests = chests }) output verdict
  pub ends : HasVerdict ending verdict
  pub text : out ≡ verdict_line verdict
