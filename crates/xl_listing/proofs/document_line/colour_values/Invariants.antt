use Rattle.std.proofs.Common.{◌≡◌, map, take}
use Rattle.serde_json.specs.View.{view}
use Rattle.spec_listing.specs.Listing.{digits}
use Rattle.xl_listing.proofs.document_line.colour_values.Given as goal

abbrev pub invariant-loop-colour : goal.invariant-loop-colour
invariant-loop-colour l = map view l.values.items ≡ map digits (take l.colour-index l.colours)
