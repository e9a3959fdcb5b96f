use Rattle.std.proofs.Common.{◌≡◌, take, map}
use Rattle.spec_text.specs.Printed.{word_of_entry}
use Rattle.xl_run.proofs.printing.order_words.Given as goal

abbrev pub invariant-loop-entry : goal.invariant-loop-entry
invariant-loop-entry l = l.words.items ≡ map word_of_entry (take l.entry-index l.entries)
