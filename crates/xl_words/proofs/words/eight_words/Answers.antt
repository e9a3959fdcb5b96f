use Rattle.xl_words.proofs.Splits.{two_and_six}
use Rattle.xl_words.proofs.words.eight_words.Goals as goal

pub returns : goal.returns
returns c = two_and_six _ _ _ _ _ _ _ _ _ _ _ c.in_ok-a.ensures c.in_ok-b.ensures c.in_ok-c.ensures
