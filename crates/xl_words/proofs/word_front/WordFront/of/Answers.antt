use Rattle.std.proofs.Common.{refl}
use Rattle.xl_words.proofs.Fronts.{front_kept}
use Rattle.xl_words.proofs.word_front.WordFront.of.Goals as goal

pub returns : goal.returns
returns c = (front_kept c.args.word.now _ _ _ c.min-kept.ensures c.copy_from_slice.ensures.after refl, refl)
