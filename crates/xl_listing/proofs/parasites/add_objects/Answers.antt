use Rattle.std.proofs.Common.{◌<◌, [], length, map, rules}
use Rattle.serde_json.specs.View.{view}
use Rattle.spec_listing.specs.Listing.{parasite}
use Rattle.xl_listing.proofs.Values.{value_more}
use Rattle.xl_listing.proofs.parasites.add_objects.Goals as goal

pub loop-name-preserved : goal.loop-name-preserved
loop-name-preserved c =
    let all = c.args.names.now in
    let i = c.loop-name.name-index in
    let within : i < length all = search rules in
    value_more (λ n. parasite n.now) (map view c.args.values.now.items) c.loop-name.values.items c.push.new.self.items
    c.in_ok-parasite_object.field-0 all i (record { ref_ptr = (0, 0); now = [] }) within
    c.loop-name.invariant c.in_ok-parasite_object.ensures c.in_ok-push.ensures.items
