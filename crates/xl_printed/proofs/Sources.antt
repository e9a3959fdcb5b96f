-- A source that is read up to one byte more than it may have is read as a whole.
use Rattle.std.proofs.Common.{◌≡◌, ◌⊎◌, inl, inr, ℕ, ◌+◌, ◌^◌, List, [], ◌++◌, length, sym, ◌∙◌, ap, subst, arith}
use Rattle.std.proofs.Common.{append-nil, length-append}
use Rattle.std.specs.Prelude.{Option, Some, None, IfOk, OnOk, Result, Ok, Err}
use Rattle.spec_audit.specs.Limited.{AreNumbers}
use Rattle.spec_audit.specs.Source.{IsSource}
use Rattle.spec_audit.proofs.Names.{script_numbers}
use Rattle.xl_ports.specs.Source.{led_by, IsEnded}
use Rattle.xl_script.specs.Lines.{lists_of}
use Rattle.xl_printed.specs.Reading.{HasParts, IsBadHead, ReadsAudit}
use Rattle.xl_printed.specs.declared.reading.Audit.{Audit}
use Rattle.xl_printed.specs.declared.reading.Unread.{Unread}
use Rattle.xl_printed.specs.declared.reading.Unread.TheVariants.{SourceFault, BadHead, BadLine, Memory}

front_has : (front more text output : List ℕ) → (length front ≡ 2 ^ 28 + 1) ⊎ (more ≡ []) → IsSource front text output
    → IsSource (front ++ more) text output
front_has front more text output (inl full) is = let short = is.short in absurd (omega (arith, full, short))
front_has front more text output (inr ended) is =
    subst (λ (bs : List ℕ). IsSource bs text output) (sym (ap (λ (m : List ℕ). front ++ m) ended ∙ append-nil front)) is

front_has_none : (front more : List ℕ) → (length front ≡ 2 ^ 28 + 1) ⊎ (more ≡ [])
    → ((text output : List ℕ) → IsSource front text output → ⊥) → (text output : List ℕ) → IsSource (front ++ more) text output → ⊥
front_has_none front more (inl full) none text output is =
    let short = is.short in let long = length-append front more in omega (arith, full, short, long)
front_has_none front more (inr ended) none text output is =
    none text output (subst (λ (bs : List ℕ). IsSource bs text output) (ap (λ (m : List ℕ). front ++ m) ended ∙ append-nil front) is)

parts_led : (before after : Option (List ℕ)) (front text output : List ℕ) → before ≡ led_by front after
    → (length front ≡ 2 ^ 28 + 1) ⊎ IsEnded after → IsSource front text output → HasParts before text output
parts_led before None front text output led how is = rw led tt
parts_led before (Some more) front text output led how is = rw led (front_has front more text output how is)

bad_head_led : (before after : Option (List ℕ)) (front : List ℕ) → before ≡ led_by front after
    → (length front ≡ 2 ^ 28 + 1) ⊎ IsEnded after → ((text output : List ℕ) → IsSource front text output → ⊥) → IsBadHead before
bad_head_led before None front led how none = rw led tt
bad_head_led before (Some more) front led how none = rw led (front_has_none front more how none)

-- what is read of a source tells what all that it had left comes to
pub audit_led : (before after : Option (List ℕ)) (front counts : List ℕ) (r : Result Audit Unread) → before ≡ led_by front after
    → (length front ≡ 2 ^ 28 + 1) ⊎ IsEnded after → ReadsAudit (Some front) counts r → ReadsAudit before counts r
audit_led before after front counts (Ok audit) led how reads =
    (reads.0, parts_led before after front reads.0 audit.output.items led how reads.1, reads.2)
audit_led before after front counts (Err SourceFault) led how reads = tt
audit_led before after front counts (Err BadHead) led how reads = bad_head_led before after front led how reads
audit_led before after front counts (Err (BadLine bad)) led how reads =
    (reads.0, reads.1, parts_led before after front reads.0 reads.1 led how reads.2, reads.3)
audit_led before after front counts (Err Memory) led how reads = tt

-- a source that has a head is read to its end
pub audit_ended : (after : Option (List ℕ)) (front counts : List ℕ) (r : Result Audit Unread)
    → (length front ≡ 2 ^ 28 + 1) ⊎ IsEnded after → ReadsAudit (Some front) counts r → OnOk r (IsEnded after)
audit_ended after front counts (Ok audit) (inl full) reads = let short = reads.1.short in absurd (omega (arith, full, short))
audit_ended after front counts (Ok audit) (inr ended) reads = ended
audit_ended after front counts (Err e) how reads = tt

-- the calls of a script that was read name numbers of 32 bits
pub audit_numbers : (left : Option (List ℕ)) (counts : List ℕ) (r : Result Audit Unread) → ReadsAudit left counts r
    → IfOk r (λ audit. AreNumbers (lists_of audit.script))
audit_numbers left counts (Ok audit) reads = script_numbers reads.0 counts (lists_of audit.script) reads.2
audit_numbers left counts (Err e) reads = tt
