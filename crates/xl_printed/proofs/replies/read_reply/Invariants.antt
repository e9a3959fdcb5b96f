use Rattle.xl_printed.proofs.Looking.{IsPhraseLeft}
use Rattle.xl_printed.proofs.replies.read_reply.Given as goal

abbrev pub invariant-loop-words : goal.invariant-loop-words
invariant-loop-words l = IsPhraseLeft l.words-items l.words-index l.text
