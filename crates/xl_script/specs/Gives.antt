-- What parsing gives, against what the definition gives.
use Rattle.std.specs.Prelude.{◌≡◌, ℕ, List, Result, Ok, Err}
use Rattle.spec_script.specs.Script as script
use Rattle.xl_script.specs.declared.bad_line.BadLineOrMemory.{BadLineOrMemory}
use Rattle.xl_script.specs.declared.bad_line.BadLineOrMemory.TheVariants.{Memory, Refused}
use Rattle.xl_script.specs.declared.script.Line.{Line}
use Rattle.xl_words.specs.Causes.{Blames}
use Rattle.xl_script.specs.Lines.{lists_of}

-- the refused line, unless memory ran out
abbrev pub IsRefusal : {A : Type 0} → BadLineOrMemory → Result A ℕ → Type 0
IsRefusal Memory read = Unit {0}
IsRefusal (Refused bad) read = read ≡ Err bad.line

abbrev pub ScriptOf : Result (List (List Line)) BadLineOrMemory → Result (List (List script.Line)) ℕ → Type 0
ScriptOf (Ok lists) read = read ≡ Ok (lists_of lists)
ScriptOf (Err e) read = IsRefusal e read

-- the cause of the refused line blames no word that the grammar takes
abbrev pub BlamesLine : BadLineOrMemory → Type 0
BlamesLine Memory = Unit {0}
BlamesLine (Refused bad) = Blames bad.cause
