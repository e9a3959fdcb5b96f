use Rattle.std.proofs.Common.{◌≡◌, ℕ, Bool, List, [], ◌++◌, Bor, map, sym, ap, ◌∙◌, rules, if◌then◌else◌}
use Rattle.std.proofs.lemmas.Bool.{eq-eqb}
use Rattle.std.proofs.lemmas.Result.{on_ok_weaker}
use Rattle.std.proofs.lemmas.Simd.{map-map}
use Rattle.serde_json.specs.Data.{Data}
use Rattle.serde_json.specs.View.{view}
use Rattle.spec_document.specs.Document.{Kept}
use Rattle.spec_listing.specs.Listing.{parasite}
use Rattle.spec_listing.specs.Parasites.{payload_names, property_names}
use Rattle.spec_listing.specs.declared.TheConstants.{PARASITES}
use Rattle.xl_listing.proofs.parasites.add_property.Goals as goal

names_are : (names : List (Bor (List ℕ))) (k : Kept) → k.kind ≡ PARASITES → map (λ n. n.now) names ≡ payload_names k.payload
    → map (λ n. parasite n.now) names ≡ map parasite (property_names k)
names_are names k kind is =
    let chosen : payload_names k.payload ≡ property_names k =
    ap (λ (b : Bool). if b then payload_names k.payload else []) (sym (eq-eqb k.kind PARASITES kind)) in
    sym (map-map parasite (λ n. n.now) names) ∙ ap (map parasite) (is ∙ chosen)

pub returns : goal.returns
returns c =
    let kind : c.args.property.now.kind ≡ PARASITES = search rules in
    let names : map (λ n. n.now) c.as_slice-2.result.now ≡ payload_names c.args.property.now.payload = search rules in
    on_ok_weaker c.add_objects.result
    (λ is. is ∙ ap (λ (ds : List Data). map view c.args.values.now.items ++ ds) (names_are c.as_slice-2.result.now c.args.property.now kind names))
    c.add_objects.ensures
