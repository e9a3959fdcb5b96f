use Rattle.std.proofs.Common.{◌<◌, [], length, rules}
use Rattle.spec_listing.specs.Listing.{channel}
use Rattle.xl_listing.proofs.Values.{value_more}
use Rattle.xl_listing.proofs.document_line.channel_values.Goals as goal

pub loop-channel-preserved : goal.loop-channel-preserved
loop-channel-preserved c =
    let all = c.args.channels.now in
    let i = c.loop-channel.channel-index in
    let within : i < length all = search rules in
    value_more channel [] c.loop-channel.values.items c.push.new.self.items c.in_ok-channel_value.field-0 all i c.channel-item.result within
    c.loop-channel.invariant (search rules) c.in_ok-push.ensures.items
