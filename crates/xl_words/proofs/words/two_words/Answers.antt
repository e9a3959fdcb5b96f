use Rattle.xl_words.proofs.Splits.{not_two}
use Rattle.xl_words.proofs.words.two_words.Goals as goal

pub returns-in-Some : goal.returns-in-Some
returns-in-Some c =
    not_two _ _ c.in_ok-a.a.now c.in_ok-b.b.now c.in-Some.field-0.now c.in_ok-a.ensures (rw c.in-Some.is at c.in_ok-b.ensures)
