use Rattle.std.proofs.Common.{◌≡◌, ◌≤◌, take}
use Rattle.std.specs.Vec.{vec_capacity}
use Rattle.xl_doc.proofs.channel.Channels.share.Given as goal

abbrev pub invariant-loop-channel : goal.invariant-loop-channel
invariant-loop-channel l = (l.list.items ≡ take l.channel-index l.channel-items) × (64 ≤ vec_capacity l.list)
