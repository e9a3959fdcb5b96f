-- The names of parasites, which stand in kept properties one after another.
use Rattle.std.specs.Prelude.{ℕ, zero, suc, ◌+◌, ◌==◌, nat_le, List, [], ◌∷◌, length, flat_map, Ok, Err, if◌then◌else◌}
use Rattle.std.specs.Result.{result_unwrap_or}
use Rattle.spec_document.specs.Document.{Kept}
use Rattle.spec_fields.specs.declared.Kind.TheVariants.{Truncated}
use Rattle.spec_fields.specs.Field.{Text, name_at, word_at}
use Rattle.spec_fields.specs.Reading.{Read, ◌>>=◌, fault, wants}
use Rattle.spec_listing.specs.declared.TheConstants.{PARASITES}

-- A parasite is a name, a word of flags, and a word n with n bytes behind it. What is read of it is its name, and the offset after it.
unfoldable pub parasite_at : (payload : List ℕ) → (at : ℕ) → Read Text
parasite_at payload at = do
  text ← name_at payload at
  _ ← word_at payload text.next
  size ← word_at payload (text.next + 4)
  _ ← wants (nat_le (text.next + 8 + size) (length payload)) (fault Truncated (text.next + 8))
  Ok (record { name = text.name; next = text.next + 8 + size })

-- the names of those that stand from an offset to the end of a payload, fewer than so many
unfoldable pub names_at : (room : ℕ) → (payload : List ℕ) → (at : ℕ) → Read (List (List ℕ))
names_at zero payload at = Err (fault Truncated at)
names_at (suc room) payload at =
    if at == length payload then Ok [] else (do
      text ← parasite_at payload at
      names ← names_at room payload text.next
      Ok (text.name ∷ names))

-- the names in a payload, none where it is not one parasite behind another; each has twelve bytes and more
abbrev pub payload_names : (payload : List ℕ) → List (List ℕ)
payload_names payload = result_unwrap_or (names_at (suc (length payload)) payload 0) []

abbrev pub property_names : Kept → List (List ℕ)
property_names k = if k.kind == PARASITES then payload_names k.payload else []

-- the names in kept properties, in their order
abbrev pub kept_names : List Kept → List (List ℕ)
kept_names ks = flat_map property_names ks
