-- What code keeps of a list of properties is what the list says.
use Rattle.std.proofs.Common.{◌≡◌, ℕ, ◌+◌, ◌≤◌, ◌^◌, List, length, refl, sym, ◌∙◌, ap, arith}
use Rattle.std.specs.Prelude.{Ok}
use Rattle.spec_document.specs.declared.Owner.{Owner}
use Rattle.spec_document.specs.declared.Owner.TheVariants.{Image, Layer, Channel, Mask}
use Rattle.spec_fields.proofs.Back.{bind_back}
use Rattle.spec_props.specs.Reading.{Properties, properties_at}
use Rattle.xl_props.specs.declared.answer.Props.{Props}
use Rattle.xl_props.specs.Known.{IsKnown}
use Rattle.xl_props.specs.Props.{props_of, props_read, places_of}
use Rattle.xl_read.specs.Listing.{list_or_none, listed, Keeps}

pub keeps : (file : List ℕ) (owner : Owner) (at : ℕ) (props : Props) → props_read file owner at ≡ Ok props
    → IsKnown owner props.known
    → props.next ≡ props.places.end + 8 → props.next ≤ length file → length file ≤ 2 ^ 31 → Keeps owner (listed file owner at) props
unfolding listed
keeps file owner at props e known next within short =
    let b = bind_back (properties_at file owner at) (λ ps. Ok (props_of owner ps)) props e in
    let here : listed file owner at ≡ b.0 = ap list_or_none b.1 in
    let same : props_of owner b.0 ≡ props = cc in
    record { says = ap (props_of owner) here ∙ same; known = known; early = omega (arith, next, within, short) }

-- the list was read there
pub listed_is : (file : List ℕ) (owner : Owner) (at : ℕ) (props : Props) → props_read file owner at ≡ Ok props
    → properties_at file owner at ≡ Ok (listed file owner at)
unfolding listed
listed_is file owner at props e =
    let b = bind_back (properties_at file owner at) (λ ps. Ok (props_of owner ps)) props e in
    b.1 ∙ ap (λ r. Ok (list_or_none r)) (sym b.1)

pub end_is : (owner : Owner) (ps : Properties) → (places_of owner ps).end ≡ ps.end
end_is Image ps = refl
end_is Layer ps = refl
end_is Channel ps = refl
end_is Mask ps = refl
