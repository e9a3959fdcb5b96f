-- A document with its locks, colours, properties and texts of names as a line of compact JSON, the keys of each object in alphabetical
-- order.
use Rattle.std.specs.Prelude.{ℕ, Bool, true, false, ℤ, List, [], ◌∷◌, ◌++◌, map, codes, is_some, if◌then◌else◌}
use Rattle.std.specs.Str.{is_utf8}
use Rattle.hex.specs.Hex.{encode_lower}
use Rattle.serde_json.specs.Data.{Data, null, unsigned, boolean, string, number, array, object, Members, no_members, member}
use Rattle.serde_json.specs.Find.{of_integer}
use Rattle.serde_json.specs.View.{items_of}
use Rattle.serde_json.specs.Written.{compact_text}
use Rattle.spec_document.specs.Blend.{mode_code}
use Rattle.spec_document.specs.Document.{Document, Nodes, Layer, Group, Channel, Kept, base_code}
use Rattle.spec_document.specs.Forest.{none, leaf, group}
use Rattle.spec_listing.specs.Parasites.{kept_names}
use Rattle.spec_report.specs.Json as json
use Rattle.spec_written.specs.Version.{least_version}

-- ---- values

abbrev pub members : List (List ℕ × Data) → Members
members [] = no_members
members (field ∷ fields) = member field.0 field.1 (members fields)

abbrev pub natural : ℕ → Data
natural n = number (unsigned n)

abbrev pub integer : ℤ → Data
integer z = number (of_integer z)

abbrev pub list : List Data → Data
list ds = array (items_of ds)

-- bytes in lower-case hexadecimal digits
abbrev pub digits : List ℕ → Data
digits bytes = string (encode_lower bytes)

-- bytes as a text, and null where they are not UTF-8
abbrev pub text : List ℕ → Data
text bytes = if is_utf8 bytes then string bytes else null

-- ---- objects

abbrev pub parasite : (name : List ℕ) → Data
parasite name = object (members ((codes "name", digits name) ∷ (codes "text", text name) ∷ []))

-- what names a layer, a group or a channel, and the names of its parasites
pub record Label : Type 0 where
  pub name : Data
  pub parasites : Data
  pub text : Data

abbrev pub label : (name : List ℕ) → List Kept → Label
label name ks = record { name = digits name; parasites = list (map parasite (kept_names ks)); text = text name }

abbrev pub channel_object : Label → Data
channel_object own = object (members (
    (codes "name", own.name)
    ∷ (codes "parasites", own.parasites)
    ∷ (codes "text", own.text)
    ∷ []))

abbrev pub layer_object : (id : ℕ) → Layer → Label → Data
layer_object id l own = object (members (
    (codes "apply_mask", boolean l.apply_mask)
    ∷ (codes "height", natural l.plane.height)
    ∷ (codes "id", natural id)
    ∷ (codes "lock_alpha", boolean l.lock_alpha)
    ∷ (codes "lock_content", boolean l.lock_content)
    ∷ (codes "mask", boolean (is_some l.mask))
    ∷ (codes "mode", natural (mode_code l.mode))
    ∷ (codes "name", own.name)
    ∷ (codes "offset", list (integer l.x ∷ integer l.y ∷ []))
    ∷ (codes "opacity", natural l.opacity)
    ∷ (codes "parasites", own.parasites)
    ∷ (codes "text", own.text)
    ∷ (codes "type", natural l.kind)
    ∷ (codes "visible", boolean l.visible)
    ∷ (codes "width", natural l.plane.width)
    ∷ []))

abbrev pub group_object : (id : ℕ) → Group → Label → (children : List Data) → Data
group_object id g own children = object (members (
    (codes "children", list children)
    ∷ (codes "id", natural id)
    ∷ (codes "lock_alpha", boolean g.lock_alpha)
    ∷ (codes "lock_content", boolean g.lock_content)
    ∷ (codes "mode", natural (mode_code g.mode))
    ∷ (codes "name", own.name)
    ∷ (codes "opacity", natural g.opacity)
    ∷ (codes "parasites", own.parasites)
    ∷ (codes "text", own.text)
    ∷ (codes "visible", boolean g.visible)
    ∷ []))

abbrev pub document_object : Document → (channels colours layers parasites : List Data) → Data
document_object d channels colours layers parasites = object (members (
    (codes "base", natural (base_code d.base))
    ∷ (codes "channels", list channels)
    ∷ (codes "colours", list colours)
    ∷ (codes "compression", natural d.compression)
    ∷ (codes "height", natural d.height)
    ∷ (codes "layers", list layers)
    ∷ (codes "parasites", list parasites)
    ∷ (codes "selection", boolean (is_some d.selection))
    ∷ (codes "version", natural (least_version d))
    ∷ (codes "width", natural d.width)
    ∷ []))

-- ---- a document

abbrev pub channel : Channel → Data
channel c = channel_object (label c.name c.kept)

abbrev pub layer_node : (id : ℕ) → Layer → Data
layer_node id l = layer_object id l (label l.name l.kept)

abbrev pub group_node : (id : ℕ) → Group → (children : List Data) → Data
group_node id g children = group_object id g (label g.name g.kept) children

-- the layers and groups, topmost first
abbrev pub nodes : Nodes → List Data
nodes none = []
nodes (leaf id l under) = layer_node id l ∷ nodes under
nodes (group id g children under) = group_node id g (nodes children) ∷ nodes under

abbrev pub document : Document → Data
document d =
    document_object d (map channel d.channels) (map digits d.colours) (nodes d.nodes) (map parasite (kept_names d.kept))

-- the line with all
abbrev pub listing : Document → List ℕ
listing d = compact_text (document d) ++ 10 ∷ []

-- the line that is asked for, with all or without
abbrev pub line : (with_all : Bool) → Document → List ℕ
line false d = json.info d
line true d = listing d
