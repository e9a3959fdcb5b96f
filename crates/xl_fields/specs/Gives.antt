-- What a reader in code gives, against what reading gives.
use Rattle.std.specs.Prelude.{◌≡◌, ℕ, List, Result, Ok, Err}
use Rattle.spec_fields.specs.declared.ReadRefused.{ReadRefused}
use Rattle.spec_fields.specs.Reading.{Read}
use Rattle.spec_fields.specs.Field.{Text, bytes_at}
use Rattle.xl_fields.specs.declared.name.Span.{Span}
use Rattle.xl_fields.specs.declared.refusal.ReadRefusedOrMemory.{ReadRefusedOrMemory}
use Rattle.xl_fields.specs.declared.refusal.ReadRefusedOrMemory.TheVariants.{Memory, Refused}

-- the value that was read, or the first fault, or memory ran out
abbrev pub Gives : {A : Type 0} → Result A ReadRefusedOrMemory → Read A → Type 0
Gives (Ok x) read = read ≡ Ok x
Gives (Err Memory) read = Unit {0}
Gives (Err (Refused e)) read = read ≡ Err e

-- the name that a place in the file stands for
abbrev pub text_of : (file : List ℕ) → Span → Text
text_of file s = record { name = bytes_at file s.start s.len; next = s.next }

-- the name as a place in the file, or the first fault
abbrev pub SpanOf : (file : List ℕ) → Result Span ReadRefused → Read Text → Type 0
SpanOf file (Ok s) read = read ≡ Ok (text_of file s)
SpanOf file (Err e) read = read ≡ Err e
