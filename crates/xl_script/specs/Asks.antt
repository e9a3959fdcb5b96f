-- What the words of a line ask for, against what they ask for in the grammar.
use Rattle.std.specs.Prelude.{◌≡◌, ℕ, List, Option, Some, Result, Ok, Err}
use Rattle.spec_script.specs.Commands as grammar
use Rattle.xl_words.specs.declared.cause.Cause.{Cause}
use Rattle.xl_words.specs.declared.cause.CauseOrMemory.{CauseOrMemory}
use Rattle.xl_script.specs.declared.command.Request.{Request}
use Rattle.xl_script.specs.declared.commands.Asked.{Asked}
use Rattle.xl_script.specs.declared.keywords.Keyword.{Keyword}
use Rattle.xl_words.specs.Causes.{Blames}
use Rattle.xl_words.specs.Reads.{HasNone}
use Rattle.xl_script.specs.Commands.{command_is, asked_of}
use Rattle.xl_script.specs.Keywords.{rule_of}

-- the grammar's command, or a cause where it has none, unless memory ran out
abbrev pub AsksIf : Result Request CauseOrMemory → Option grammar.Command → Type 0
AsksIf (Ok command) read = read ≡ Some (command_is command)
AsksIf (Err e) read = HasNone e read

-- the same of what lines ask for
abbrev pub AsksLine : Result Asked CauseOrMemory → Option grammar.Asked → Type 0
AsksLine (Ok asked) read = read ≡ Some (asked_of asked)
AsksLine (Err e) read = HasNone e read

-- the keyword's rule is that of the word, which otherwise is none
abbrev pub Finds : Result Keyword Cause → (word : List ℕ) → Type 0
Finds (Ok keyword) word = rule_of keyword ≡ grammar.rule_of word
Finds (Err cause) word = (grammar.no_rule ≡ grammar.rule_of word) × Blames cause
