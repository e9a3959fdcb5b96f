use Rattle.std.proofs.Common.{◌≡◌, map, take}
use Rattle.serde_json.specs.View.{view}
use Rattle.spec_listing.specs.Listing.{channel}
use Rattle.xl_listing.proofs.document_line.channel_values.Given as goal

abbrev pub invariant-loop-channel : goal.invariant-loop-channel
invariant-loop-channel l = map view l.values.items ≡ map channel (take l.channel-index l.channels)
