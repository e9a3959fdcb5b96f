use Rattle.std.proofs.Common.{length}
use Rattle.xl_undo.proofs.counting.+changed_channels.Given as goal

abbrev pub decreases-changed_channels : goal.decreases-changed_channels
decreases-changed_channels l = length l.before.now
