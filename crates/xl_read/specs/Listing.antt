-- The list of properties that a file has at an offset, and what code keeps of it.
use Rattle.std.specs.Prelude.{◌≡◌, ℕ, ◌+◌, ◌-◌, ◌<◌, nat_le, if◌then◌else◌, List, [], ◌∷◌, length, take, Option}
use Rattle.std.specs.Prelude.{Some, None, Ok, Err}
use Rattle.spec_document.specs.declared.Owner.{Owner}
use Rattle.spec_document.specs.Document.{Kept}
use Rattle.spec_fields.specs.declared.ReadRefused.{ReadRefused}
use Rattle.spec_fields.specs.declared.Kind.TheVariants.{TooLarge}
use Rattle.spec_fields.specs.Reading.{Read, fault}
use Rattle.spec_props.specs.Reading.{Properties, properties_at}
use Rattle.xl_props.specs.declared.answer.Props.{Props}
use Rattle.xl_props.specs.Known.{IsKnown}
use Rattle.xl_props.specs.Props.{props_of}
use Rattle.spec_document.specs.declared.TheConstants.{MAX_KEPT_BYTES}
use Rattle.spec_file.specs.declared.TheConstants.{FILE_LIMIT}

-- what was read, or an empty list where nothing was
abbrev pub list_or_none : Read Properties → Properties
list_or_none (Ok ps) = ps
list_or_none (Err refused) = record { list = []; end = 0 }

-- the list of properties at an offset
unfoldable pub listed : (file : List ℕ) → Owner → (at : ℕ) → Properties
listed file owner at = list_or_none (properties_at file owner at)

-- code keeps what the list says
pub record Keeps (owner : Owner) (ps : Properties) (props : Props) : Type 0 where
  pub says : props_of owner ps ≡ props
  pub known : IsKnown owner props.known
  pub early : props.places.end < FILE_LIMIT

-- the place that the last word of an item path counts from
abbrev pub parent_of : Option (List ℕ) → List ℕ
parent_of None = []
parent_of (Some path) = take (length path - 1) path

-- the place of the first payload that takes what is kept past the limit
abbrev pub over : (before : ℕ) → List Kept → (places : List ℕ) → Option ReadRefused
over before [] places = None
over before (k ∷ ks) [] = None
over before (k ∷ ks) (place ∷ places) =
    if nat_le (before + length k.payload) MAX_KEPT_BYTES then over (before + length k.payload) ks places
    else Some (fault TooLarge place)
