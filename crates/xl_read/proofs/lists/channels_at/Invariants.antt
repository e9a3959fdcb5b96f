use Rattle.xl_read.proofs.Pointers.{ChannelsLeft}
use Rattle.xl_read.proofs.lists.channels_at.Given as goal

abbrev pub invariant-loop-i : goal.invariant-loop-i
invariant-loop-i g l = ChannelsLeft l.file l.at l.fn.draft l.i l.draft
