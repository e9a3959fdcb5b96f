use Rattle.std.proofs.Common.{◌≡◌, ◌++◌, take, codes, string_bytes, flat_map}
use Rattle.spec_text.specs.Printed.{order_word}
use Rattle.xl_answers.proofs.printing.order_text.Given as goal

abbrev pub invariant-loop-word : goal.invariant-loop-word
invariant-loop-word l = string_bytes l.line ≡ codes "order" ++ flat_map order_word (take l.word-index l.entries)
