use Rattle.xl_blend.proofs.FourWords.{four_words}
use Rattle.xl_blend.proofs.fours.bytes_of.Goals as goal

pub returns : goal.returns
returns c =
    let f = c.args.of in
    rw (c.word.ensures.value, c.word-2.ensures.value, c.word-3.ensures.value, c.word-4.ensures.value)
    (four_words f.p f.q f.r f.s c.word.ensures.bytes c.word-2.ensures.bytes c.word-3.ensures.bytes c.word-4.ensures.bytes)
