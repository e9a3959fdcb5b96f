use Rattle.std.proofs.Common.{◌≡◌, ◌++◌, map, take}
use Rattle.serde_json.specs.View.{view}
use Rattle.spec_listing.specs.Listing.{parasite}
use Rattle.xl_listing.proofs.parasites.add_objects.Given as goal

abbrev pub invariant-loop-name : goal.invariant-loop-name
invariant-loop-name l =
    map view l.values.items ≡ map view l.fn.values.items ++ map (λ n. parasite n.now) (take l.name-index l.names)
