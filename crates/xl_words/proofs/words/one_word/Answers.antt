use Rattle.xl_words.proofs.Splits.{not_one}
use Rattle.xl_words.proofs.words.one_word.Goals as goal

pub returns-in-Some : goal.returns-in-Some
returns-in-Some c = not_one _ c.in_ok-a.a.now c.in-Some.field-0.now (rw c.in-Some.is at c.in_ok-a.ensures)
