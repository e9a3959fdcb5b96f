-- What is read of the words of a line, against what the grammar reads.
use Rattle.std.specs.Prelude.{◌≡◌, Bool, true, false, Option, Some, None, Result, Ok, Err}
use Rattle.xl_words.specs.declared.cause.Cause.{Cause}
use Rattle.xl_words.specs.declared.cause.CauseOrMemory.{CauseOrMemory}
use Rattle.xl_words.specs.declared.cause.CauseOrMemory.TheVariants.{Memory, Refused}
use Rattle.xl_words.specs.Causes.{Blames}

-- the condition holds, or there is a cause
abbrev pub Holds : {A : Type 0} → Result A Cause → Bool → Type 0
Holds (Ok x) b = b ≡ true
Holds (Err cause) b = (b ≡ false) × Blames cause

-- the grammar's value, or a cause where it has none
abbrev pub Reads : {A : Type 0} → Result A Cause → Option A → Type 0
Reads (Ok x) read = read ≡ Some x
Reads (Err cause) read = (read ≡ None) × Blames cause

-- the grammar has no value, unless memory ran out
abbrev pub HasNone : {A : Type 0} → CauseOrMemory → Option A → Type 0
HasNone Memory read = Unit {0}
HasNone (Refused cause) read = (read ≡ None) × Blames cause

-- the same, where memory may run out
abbrev pub ReadsIf : {A : Type 0} → Result A CauseOrMemory → Option A → Type 0
ReadsIf (Ok x) read = read ≡ Some x
ReadsIf (Err e) read = HasNone e read
