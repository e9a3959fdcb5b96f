use Rattle.std.proofs.Common.{length}
use Rattle.xl_undo.proofs.counting.+channels_count.Given as goal

abbrev pub decreases-channels_count : goal.decreases-channels_count
decreases-channels_count l = length l.channels.now
