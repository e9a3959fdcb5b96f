-- Part of a file as the payload of a property.
use Rattle.std.proofs.Common.{◌≡◌, ◌≢◌, ℕ, zero, suc, ◌+◌, ◌^◌, ◌<◌, ◌≤◌, true, List, [], ◌∷◌, length, take, drop}
use Rattle.std.proofs.Common.{get_or, None, sym, subst, ap, arith}
use Rattle.std.proofs.lemmas.List.{get_or-drop, length-take, length-drop}
use Rattle.spec_document.specs.declared.Owner.{Owner}
use Rattle.spec_document.specs.Limits.{AreBytes}
use Rattle.spec_fields.specs.Field.{bytes_at, word_value, HasBytes}
use Rattle.spec_fields.proofs.Fields.{has_first_word}
use Rattle.spec_props.specs.Rules.{rule_of}
use Rattle.spec_props.specs.Reading.{is_colour_map}
use Rattle.spec_props.specs.Holds.{IsColourMap}
use Rattle.xl_props.specs.Props.{property}
use Rattle.xl_props.specs.Checked.{IsMapLength, IsChecked}

pub are_bytes : (xs : List ℕ) → ((i : ℕ) → get_or xs i 0 < 256) → AreBytes xs
are_bytes [] h = tt
are_bytes (x ∷ xs) h = (h 0, are_bytes xs (λ i. h (suc i)))

-- each byte of a front
front_byte : (n : ℕ) (xs : List ℕ) → ((i : ℕ) → get_or xs i 0 < 256) → (i : ℕ) → get_or (take n xs) i 0 < 256
front_byte zero xs h i = omega arith
front_byte (suc n) [] h i = h i
front_byte (suc n) (x ∷ xs) h zero = h 0
front_byte (suc n) (x ∷ xs) h (suc i) = front_byte n xs (λ k. h (suc k)) i

pub part_bytes : (file : List ℕ) (at n : ℕ) → ((i : ℕ) → get_or file i 0 < 256) → AreBytes (bytes_at file at n)
part_bytes file at n h =
    are_bytes (bytes_at file at n) (front_byte n (drop at file) (λ i. omega (arith, get_or-drop at file i 0, h (at + i))))

pub length_part : (file : List ℕ) (at n : ℕ) → at + n ≤ length file → length (bytes_at file at n) ≡ n
length_part file at n fits = omega (arith, length-take n (drop at file), length-drop at file)

part_stands : (file : List ℕ) (at n : ℕ) → at + n ≤ length file → HasBytes file at (bytes_at file at n)
part_stands file at n fits = record {
  fits = omega (arith, length_part file at n fits);
  are = ap (λ k. take k (drop at file)) (length_part file at n fits);
}

-- the first word of a part
pub part_word : (file : List ℕ) (at n : ℕ) → at + n ≤ length file → 4 ≤ n → word_value file at ≡ word_value (bytes_at file at n) 0
part_word file at n fits long =
    (has_first_word file at (bytes_at file at n) (omega (arith, length_part file at n fits)) (part_stands file at n fits)).is

is_map : (file : List ℕ) (at n kind : ℕ) → at + n ≤ length file → IsMapLength file at n
    → IsColourMap (property 0 kind (bytes_at file at n))
is_map file at n kind fits h =
    let word = part_word file at n fits (omega (arith, h.1)) in
    let long = length_part file at n fits in
    (omega (arith, h.1), omega (arith, h.0), omega (arith, h.1))

pub part_checked : (file : List ℕ) (owner : Owner) (kind at k n : ℕ) → k ≡ n → at + n ≤ length file
    → ((i : ℕ) → get_or file i 0 < 256)
    → kind < 2 ^ 32 → kind ≢ 0 → n ≤ 2 ^ 24 → (is_colour_map owner kind ≡ true → IsMapLength file at n)
    → rule_of owner (property 0 kind (bytes_at file at k)) ≡ None
    → IsChecked owner (property 0 kind (bytes_at file at k))
part_checked file owner kind at k n same fits bytes word not_end short colours rules =
    let P : ℕ → Type 0 = λ m. IsMapLength file at m in
    record {
      kind = word;
      not_end = not_end;
      bytes = part_bytes file at k bytes;
      short = omega (arith, length_part file at k (omega arith));
      colours = λ e. is_map file at k kind (omega arith) (subst P (sym same) (colours e));
      rules = rules;
    }
