-- The lines of worked documents, and the names in worked payloads.
use Rattle.std.specs.Prelude.{◌≡◌, ℕ, List, [], ◌∷◌, ◌++◌, true, false, pos, negsuc, None, Some, refl, codes}
use Rattle.std.specs.Char.{encode_utf8}
use Rattle.std.specs.Fmt.{digits}
use Rattle.std.specs.Str.{is_utf8, chars}
use Rattle.hex.specs.Hex.{encode_with}
use Rattle.json.specs.Print.{escape_byte}
use Rattle.spec_document.proofs.SampleFiles.{one_document}
use Rattle.spec_document.specs.declared.Base.TheVariants.{Indexed}
use Rattle.spec_document.specs.declared.Mode.TheVariants.{Normal, SoftLight}
use Rattle.spec_document.specs.Document.{Document, Group, Layer, Channel}
use Rattle.spec_document.specs.Forest.{none, leaf, group}
use Rattle.spec_fields.specs.Field.{name_at}
use Rattle.spec_listing.specs.Listing.{line, listing}
use Rattle.spec_listing.specs.Parasites.{names_at, parasite_at, payload_names}

one_listing : line true one_document ≡ codes "{\"base\":0,\"channels\":[],\"colours\":[],\"compression\":0,\"height\":1,\"layers\":[{\"apply_mask\":true,\"height\":1,\"id\":1,\"lock_alpha\":false,\"lock_content\":false,\"mask\":false,\"mode\":0,\"name\":\"41\",\"offset\":[0,0],\"opacity\":255,\"parasites\":[],\"text\":\"A\",\"type\":1,\"visible\":true,\"width\":1}],\"parasites\":[],\"selection\":false,\"version\":0,\"width\":1}" ++ 10 ∷ []
unfolding digits encode_with escape_byte is_utf8 chars encode_utf8
one_listing = refl

-- ---- parasites

-- one with two bytes, and one without a name and without bytes
abbrev two : List ℕ
two = 0 ∷ 0 ∷ 0 ∷ 2 ∷ 97 ∷ 0 ∷ 0 ∷ 0 ∷ 0 ∷ 1 ∷ 0 ∷ 0 ∷ 0 ∷ 2 ∷ 7 ∷ 7
    ∷ 0 ∷ 0 ∷ 0 ∷ 0 ∷ 0 ∷ 0 ∷ 0 ∷ 0 ∷ 0 ∷ 0 ∷ 0 ∷ 0 ∷ []

two_names : payload_names two ≡ (97 ∷ []) ∷ [] ∷ []
unfolding names_at parasite_at name_at
two_names = refl

no_names : payload_names [] ≡ []
unfolding names_at
no_names = refl

-- a byte more is no list of parasites
longer_names : payload_names (two ++ 0 ∷ []) ≡ []
unfolding names_at parasite_at name_at
longer_names = refl

-- ---- a document with a group, two colours, parasites, a name with an umlaut and one that is not UTF-8

abbrev marked : Channel
marked = record {
  name = 195 ∷ 164 ∷ [];
  kept = record { kind = 21; payload = two } ∷ [];
  plane = record { width = 3; height = 2; bpp = 1; bytes = [] };
}

abbrev low : Layer
low = record {
  name = 34 ∷ [];
  opacity = 255;
  mode = Normal;
  visible = true;
  lock_alpha = true;
  lock_content = false;
  kept = record { kind = 20; payload = two } ∷ [];
  kind = 4;
  x = pos 7;
  y = negsuc 1;
  plane = record { width = 2; height = 1; bpp = 1; bytes = [] };
  mask = Some marked;
  apply_mask = false;
}

abbrev high : Group
high = record {
  name = 255 ∷ 97 ∷ [];
  opacity = 7;
  mode = SoftLight;
  visible = false;
  lock_alpha = false;
  lock_content = true;
  kept = [];
}

abbrev nested : Document
nested = record {
  width = 3;
  height = 2;
  base = Indexed;
  compression = 1;
  colours = (1 ∷ 2 ∷ 3 ∷ []) ∷ (255 ∷ 0 ∷ 16 ∷ []) ∷ [];
  kept = record { kind = 21; payload = two } ∷ record { kind = 21; payload = 0 ∷ [] } ∷ [];
  nodes = group 5 high (leaf 9 low none) none;
  channels = marked ∷ [];
  selection = Some marked;
}

nested_listing : listing nested ≡ codes "{\"base\":2,\"channels\":[{\"name\":\"c3a4\",\"parasites\":[{\"name\":\"61\",\"text\":\"a\"},{\"name\":\"\",\"text\":\"\"}],\"text\":\"" ++ 195 ∷ 164 ∷ codes "\"}],\"colours\":[\"010203\",\"ff0010\"],\"compression\":1,\"height\":2,\"layers\":[{\"children\":[{\"apply_mask\":false,\"height\":1,\"id\":9,\"lock_alpha\":true,\"lock_content\":false,\"mask\":true,\"mode\":0,\"name\":\"22\",\"offset\":[7,-2],\"opacity\":255,\"parasites\":[],\"text\":\"\\\"\",\"type\":4,\"visible\":true,\"width\":2}],\"id\":5,\"lock_alpha\":false,\"lock_content\":true,\"mode\":19,\"name\":\"ff61\",\"opacity\":7,\"parasites\":[],\"text\":null,\"visible\":false}],\"parasites\":[{\"name\":\"61\",\"text\":\"a\"},{\"name\":\"\",\"text\":\"\"}],\"selection\":true,\"version\":3,\"width\":3}" ++ 10 ∷ []
unfolding digits encode_with escape_byte is_utf8 chars encode_utf8 names_at parasite_at name_at
nested_listing = refl
