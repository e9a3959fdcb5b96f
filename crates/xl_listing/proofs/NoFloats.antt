-- There is no float in a line.
use Rattle.std.proofs.Common.{◌≡◌, ℕ, ℤ, pos, negsuc, List, [], ◌∷◌, Bool, true, false, ◌||◌, map, refl, if◌then◌else◌}
use Rattle.std.specs.Str.{is_utf8}
use Rattle.serde_json.specs.Data.{null, string}
use Rattle.serde_json.specs.Find.{is_float, of_integer}
use Rattle.serde_json.specs.View.{items_of}
use Rattle.serde_json.specs.Written.{has_float, items_have_float}
use Rattle.spec_document.specs.Document.{Document, Nodes, Channel}
use Rattle.spec_document.specs.Forest.{none, leaf, group}
use Rattle.spec_listing.specs.Listing.{text, parasite, digits, channel, nodes, document}
use Rattle.spec_listing.specs.Parasites.{kept_names}

text_whole : (bytes : List ℕ) → has_float (text bytes) ≡ false
text_whole bytes = go (is_utf8 bytes)
  where
    go : (b : Bool) → has_float (if b then string bytes else null) ≡ false
    go true = refl
    go false = refl

integer_whole : (z : ℤ) → is_float (of_integer z) ≡ false
integer_whole (pos n) = refl
integer_whole (negsuc n) = refl

parasites_whole : (names : List (List ℕ)) → items_have_float (items_of (map parasite names)) ≡ false
parasites_whole [] = refl
parasites_whole (name ∷ names) = (λ i. (text_whole name i || false) || parasites_whole names i)

colours_whole : (colours : List (List ℕ)) → items_have_float (items_of (map digits colours)) ≡ false
colours_whole [] = refl
colours_whole (c ∷ colours) = colours_whole colours

channels_whole : (channels : List Channel) → items_have_float (items_of (map channel channels)) ≡ false
channels_whole [] = refl
channels_whole (c ∷ channels) =
    (λ i. (parasites_whole (kept_names c.kept) i || (text_whole c.name i || false)) || channels_whole channels i)

nodes_whole : (ns : Nodes) → items_have_float (items_of (nodes ns)) ≡ false
nodes_whole none = refl
nodes_whole (leaf id l under) =
    (λ i. ((integer_whole l.x i || (integer_whole l.y i || false))
    || (parasites_whole (kept_names l.kept) i || (text_whole l.name i || false)))
    || nodes_whole under i)
nodes_whole (group id g children under) =
    (λ i. (nodes_whole children i || (parasites_whole (kept_names g.kept) i || (text_whole g.name i || false)))
    || nodes_whole under i)

pub document_whole : (d : Document) → has_float (document d) ≡ false
document_whole d =
    (λ i. channels_whole d.channels i
    || (colours_whole d.colours i || (nodes_whole d.nodes i || (parasites_whole (kept_names d.kept) i || false))))
