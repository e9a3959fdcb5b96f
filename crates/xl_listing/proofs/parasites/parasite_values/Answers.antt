use Rattle.std.proofs.Common.{◌<◌, length, map, rules}
use Rattle.serde_json.specs.View.{view}
use Rattle.xl_listing.proofs.Values.{property_more}
use Rattle.xl_listing.proofs.parasites.parasite_values.Goals as goal

pub loop-property-preserved : goal.loop-property-preserved
loop-property-preserved c =
    let all = c.args.kept.now in
    let i = c.loop-property.property-index in
    let within : i < length all = search rules in
    property_more (map view c.loop-property.values.items) (map view c.add_property.new.values.items) all i c.property-item.result within
    c.loop-property.invariant (search rules)
