-- How a list of properties is laid out in a file.
use Rattle.std.specs.Prelude.{ℕ, Bool, true, false, ℤ, List, [], ◌∷◌, ◌++◌, length}
use Rattle.std.specs.List.{flat_map}
use Rattle.std.specs.Int.{w32, cast_unsigned}
use Rattle.spec_document.specs.Document.{Kept}
use Rattle.spec_fields.specs.Put.{word}

abbrev pub signed_word : ℤ → List ℕ
signed_word z = word (cast_unsigned w32 z)

abbrev pub flag : Bool → ℕ
flag true = 1
flag false = 0

-- x and y
abbrev pub point_bytes : (x y : ℤ) → List ℕ
point_bytes x y = signed_word x ++ signed_word y

-- the places of an item path
abbrev pub path_bytes : List ℕ → List ℕ
path_bytes places = flat_map word places

abbrev pub all_colours : List (List ℕ) → List ℕ
all_colours colours = flat_map (λ colour. colour) colours

-- how many colours, and then each
abbrev pub colour_bytes : List (List ℕ) → List ℕ
colour_bytes colours = word (length colours) ++ all_colours colours

-- a property of these bytes
abbrev pub property : (kind : ℕ) → (payload : List ℕ) → Kept
property kind payload = record { kind = kind; payload = payload }

-- the mark of what is so
abbrev pub if_so : (kind : ℕ) → Bool → List Kept
if_so kind true = property kind [] ∷ []
if_so kind false = []

-- a property: its number, how many bytes it has, and these
abbrev pub property_bytes : Kept → List ℕ
property_bytes k = word k.kind ++ (word (length k.payload) ++ k.payload)

abbrev pub list_bytes : List Kept → List ℕ
list_bytes ks = flat_map property_bytes ks

-- the values that the owner interprets, the properties that are kept, and the end
abbrev pub property_list : (values kept : List Kept) → List ℕ
property_list values kept = list_bytes (values ++ (kept ++ property 0 [] ∷ []))
