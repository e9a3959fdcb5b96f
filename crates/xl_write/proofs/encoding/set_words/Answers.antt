use Rattle.std.proofs.Common.{refl}
use Rattle.xl_write.proofs.Whole.{word_set}
use Rattle.xl_write.proofs.encoding.set_words.Goals as goal

pub loop-k-preserved : goal.loop-k-preserved
loop-k-preserved c =
    word_set c.args.out.now c.loop-k.out c.set_word.new.out c.args.at c.loop-k.k _ c.args.values.now c.requires c.loop-k-test.true
    c.loop-k.invariant refl c.set_word.ensures
