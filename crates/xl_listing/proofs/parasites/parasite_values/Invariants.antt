use Rattle.std.proofs.Common.{◌≡◌, map, take}
use Rattle.serde_json.specs.View.{view}
use Rattle.spec_listing.specs.Listing.{parasite}
use Rattle.spec_listing.specs.Parasites.{kept_names}
use Rattle.xl_listing.proofs.parasites.parasite_values.Given as goal

abbrev pub invariant-loop-property : goal.invariant-loop-property
invariant-loop-property l = map view l.values.items ≡ map parasite (kept_names (take l.property-index l.kept))
