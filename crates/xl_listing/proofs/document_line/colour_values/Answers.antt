use Rattle.std.proofs.Common.{◌<◌, [], length, rules}
use Rattle.spec_listing.specs.Listing.{digits}
use Rattle.xl_listing.proofs.Values.{value_more}
use Rattle.xl_listing.proofs.document_line.colour_values.Goals as goal

pub loop-colour-preserved : goal.loop-colour-preserved
loop-colour-preserved c =
    let all = c.args.colours.now in
    let i = c.loop-colour.colour-index in
    let within : i < length all = search rules in
    value_more digits [] c.loop-colour.values.items c.push.new.self.items c.in_ok-digits_value.field-0 all i [] within
    c.loop-colour.invariant (search rules) c.in_ok-push.ensures.items
