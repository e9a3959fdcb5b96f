use Rattle.std.proofs.Common.{sym}
use Rattle.xl_words.proofs.Splits.{not_none, split_has}
use Rattle.xl_words.proofs.words.no_words.Goals as goal

pub returns-in-Some : goal.returns-in-Some
returns-in-Some c = rw c.in-Some.is (sym (not_none _ (split_has 32 c.in-Some.field-0.now)))
