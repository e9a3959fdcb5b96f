-- The label that values are the data of.
use Rattle.serde_json.specs.Data.{array}
use Rattle.serde_json.specs.View.{view, items_view}
use Rattle.spec_listing.specs.Listing as line
use Rattle.xl_listing.specs.declared.labels.Label.{Label}

abbrev pub label_of : Label → line.Label
label_of own = record { name = view own.name; parasites = array (items_view own.parasites.items); text = view own.text }
