-- What is read of the source of an audit.
use Rattle.std.specs.Prelude.{◌≡◌, ℕ, List, Option, IfSome, Result, Ok, Err}
use Rattle.spec_audit.specs.Source.{IsSource}
use Rattle.spec_script.specs.Script.{script}
use Rattle.xl_ports.specs.Faults.{Rose}
use Rattle.xl_script.specs.Lines.{lists_of}
use Rattle.xl_printed.specs.declared.reading.Audit.{Audit}
use Rattle.xl_printed.specs.declared.reading.Unread.{Unread}
use Rattle.xl_printed.specs.declared.reading.Unread.TheVariants.{SourceFault, BadHead, BadLine, Memory}

-- the source has this script and this output behind its head, where it is told
abbrev pub HasParts : (left : Option (List ℕ)) → (text output : List ℕ) → Type 0
HasParts left text output = IfSome left (λ bytes. IsSource bytes text output)

-- the source has no such head, or too few or too many bytes, where it is told
abbrev pub IsBadHead : (left : Option (List ℕ)) → Type 0
IsBadHead left = IfSome left (λ bytes. (text output : List ℕ) → IsSource bytes text output → ⊥)

-- the script of the source is refused at this line; `counts` are the numbers of the sessions' filters
abbrev pub IsBadLineBehind : (left : Option (List ℕ)) → (counts : List ℕ) → (number : ℕ) → Type 0
IsBadLineBehind left counts number =
    (text : List ℕ) × (output : List ℕ) × HasParts left text output × (script text counts ≡ Err number)

-- the script with its lines and the output, or why there are none
abbrev pub ReadsAudit : (left : Option (List ℕ)) → (counts : List ℕ) → Result Audit Unread → Type 0
ReadsAudit left counts (Ok audit) =
    (text : List ℕ) × HasParts left text audit.output.items × (script text counts ≡ Ok (lists_of audit.script))
ReadsAudit left counts (Err SourceFault) = Unit {0}
ReadsAudit left counts (Err BadHead) = IsBadHead left
ReadsAudit left counts (Err (BadLine bad)) = IsBadLineBehind left counts bad.line
ReadsAudit left counts (Err Memory) = Unit {0}

-- the source's faults rise only where they are told of
abbrev pub HasCause : (before after : ℕ) → Result Audit Unread → Type 0
HasCause before after (Ok audit) = after ≡ before
HasCause before after (Err SourceFault) = Rose before after
HasCause before after (Err BadHead) = after ≡ before
HasCause before after (Err (BadLine bad)) = after ≡ before
HasCause before after (Err Memory) = after ≡ before
