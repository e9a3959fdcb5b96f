-- Properties that stand in a file one behind another, with the end behind them.
use Rattle.std.proofs.Common.{◌≡◌, ◌≢◌, ℕ, ◌+◌, ◌^◌, ◌<◌, ◌≤◌, Bool, true, false, cond, List, [], ◌∷◌, ◌++◌, length}
use Rattle.std.proofs.Common.{None, refl, sym, ap, ◌∙◌, subst, arith, length-append}
use Rattle.std.specs.Prelude.{MatchBool}
use Rattle.std.specs.List.{AllByRecursion}
use Rattle.std.specs.Int.{w32, from_be_bytes}
use Rattle.std.proofs.lemmas.Nat.{from_be_bytes-to_be_bytes_4}
use Rattle.spec_document.specs.declared.Owner.{Owner}
use Rattle.spec_document.specs.Document.{Kept}
use Rattle.spec_document.specs.Limits.{is_unit, is_unit_length}
use Rattle.spec_fields.specs.Field.{word_value, HasWord, HasBytes}
use Rattle.spec_fields.proofs.Fields.{has_front, has_back}
use Rattle.spec_props.specs.Meaning.{Property}
use Rattle.spec_props.specs.Rules.{rule_of}
use Rattle.spec_props.specs.Unit.{true_length, unit_length}
use Rattle.spec_props.specs.Reading.{is_colour_map}
use Rattle.spec_props.specs.Holds.{IsColourMap, HasProperty, Follow}
use Rattle.spec_props.proofs.Trusted.{trusted}
use Rattle.xl_props.specs.Props.{property}
use Rattle.spec_fields.specs.Put.{word}
use Rattle.spec_props.specs.Layout.{property as raw, property_bytes, list_bytes}
use Rattle.xl_props.proofs.Lengths.{length_word}

-- what may be written in a list of this owner
pub record IsWritable (owner : Owner) (k : Kept) : Type 0 where
  pub kind : k.kind < 2 ^ 32
  pub not_end : k.kind ≢ 0
  pub short : length k.payload ≤ 2 ^ 24
  pub colours : is_colour_map owner k.kind ≡ true → IsColourMap (property 0 k.kind k.payload)
  pub unit : is_unit owner k.kind ≡ true → is_unit_length (length k.payload) ≡ true
  pub rules : (at : ℕ) → rule_of owner (property at k.kind k.payload) ≡ None

-- the same as properties, the first at an offset
abbrev pub placed : (at : ℕ) → List Kept → List Property
placed at [] = []
placed at (k ∷ ks) = property at k.kind k.payload ∷ placed (at + 8 + length k.payload) ks

-- the offset behind them
abbrev pub behind_all : (at : ℕ) → List Kept → ℕ
behind_all at [] = at
behind_all at (k ∷ ks) = behind_all (at + 8 + length k.payload) ks

has_word : (file : List ℕ) (at n : ℕ) → n < 2 ^ 32 → HasBytes file at (word n) → HasWord file at n
has_word file at n small h =
    record { fits = omega (arith, h.fits); is = ap (from_be_bytes w32) h.are ∙ from_be_bytes-to_be_bytes_4 n small }

-- the parts of a property that stands in a file
record HasParts (file : List ℕ) (at : ℕ) (k : Kept) : Type 0 where
  kind : HasWord file at k.kind
  long : HasWord file (at + 4) (length k.payload)
  payload : HasBytes file (at + 8) k.payload

parts : (file : List ℕ) (at : ℕ) (k : Kept) → k.kind < 2 ^ 32 → length k.payload ≤ 2 ^ 24 → HasBytes file at (property_bytes k)
    → HasParts file at k
parts file at k kind short h =
    let n = length k.payload in
    let rest = has_back file at (word k.kind) (word n ++ k.payload) h in
    let last = has_back file (at + length (word k.kind)) (word n) k.payload rest in
    let second : at + length (word k.kind) ≡ at + 4 = omega (arith, length_word k.kind) in
    let third : at + length (word k.kind) + length (word n) ≡ at + 8 = omega (arith, length_word k.kind, length_word n) in
    let P : ℕ → Type 0 = λ p. HasWord file p n in
    let Q : ℕ → Type 0 = λ p. HasBytes file p k.payload in
    record {
      kind = has_word file at k.kind kind (has_front file at (word k.kind) (word n ++ k.payload) h);
      long = subst P second (has_word file (at + length (word k.kind)) n (omega arith)
          (has_front file (at + length (word k.kind)) (word n) k.payload rest));
      payload = subst Q third last;
    }

pub property_bytes_length : (k : Kept) → length (property_bytes k) ≡ 8 + length k.payload
property_bytes_length k =
    omega (
      arith,
      length-append (word k.kind) (word (length k.payload) ++ k.payload),
      length-append (word (length k.payload)) k.payload,
      length_word k.kind,
      length_word (length k.payload),
    )

-- what stands behind a property
rest_of : (file : List ℕ) (at : ℕ) (k : Kept) (ks : List Kept) → HasBytes file at (list_bytes (k ∷ ks))
    → HasBytes file (at + 8 + length k.payload) (list_bytes ks)
rest_of file at k ks h =
    let P : ℕ → Type 0 = λ p. HasBytes file p (list_bytes ks) in
    let e : at + length (property_bytes k) ≡ at + 8 + length k.payload = omega (arith, property_bytes_length k) in
    subst P e (has_back file at (property_bytes k) (list_bytes ks) h)

abbrev end : Kept
end = raw 0 []

-- the length word of the next property, or of the end, is within the limit
next_short : (owner : Owner) (file : List ℕ) (at : ℕ) (ks : List Kept) → AllByRecursion (IsWritable owner) ks
    → HasBytes file at (list_bytes (ks ++ end ∷ [])) → word_value file (at + 4) ≤ 2 ^ 24
next_short owner file at [] h b =
    let p = parts file at end (omega arith) (omega arith) (has_front file at (property_bytes end) [] b) in omega (arith, p.long.is)
next_short owner file at (k ∷ ks) h b =
    let p = parts file at k h.0.kind h.0.short (has_front file at (property_bytes k) (list_bytes (ks ++ end ∷ [])) b) in
    omega (arith, p.long.is, h.0.short)

its_length : (file : List ℕ) (owner : Owner) (at : ℕ) (k : Kept) → IsWritable owner k
    → word_value file (at + 8 + length k.payload + 4) ≤ 2 ^ 24
    → true_length file owner k.kind (at + 8) (length k.payload) ≡ length k.payload
its_length file owner at k h small = by (is_unit owner k.kind) h.unit
  where
    n : ℕ
    n = length k.payload

    by : (b : Bool) → (b ≡ true → is_unit_length n ≡ true) → cond b (unit_length file (at + 8) n) n ≡ n
    by true long = trusted file (at + 8) n (long refl) small
    by false long = refl

length_is : (file : List ℕ) (owner : Owner) (at : ℕ) (k : Kept) → IsWritable owner k
    → true_length file owner k.kind (at + 8) (length k.payload) ≡ length k.payload
    → MatchBool (is_colour_map owner k.kind) (IsColourMap (property at k.kind k.payload))
    ((true_length file owner k.kind (at + 8) (length k.payload) ≡ length k.payload) × (length k.payload ≤ 2 ^ 24))
length_is file owner at k h e = by (is_colour_map owner k.kind) h.colours
  where
    by : (b : Bool) → (b ≡ true → IsColourMap (property 0 k.kind k.payload))
        → MatchBool b (IsColourMap (property at k.kind k.payload))
        ((true_length file owner k.kind (at + 8) (length k.payload) ≡ length k.payload) × (length k.payload ≤ 2 ^ 24))
    by true map_is = map_is refl
    by false map_is = (e, h.short)

one_stands : (file : List ℕ) (owner : Owner) (at : ℕ) (k : Kept) → IsWritable owner k → HasParts file at k
    → word_value file (at + 8 + length k.payload + 4) ≤ 2 ^ 24
    → HasProperty file owner (property at k.kind k.payload)
one_stands file owner at k h p small = record {
  kind = p.kind;
  not_end = h.not_end;
  length_word = length k.payload;
  has_length = p.long;
  payload = p.payload;
  length_is = length_is file owner at k h (its_length file owner at k h small);
  rules = h.rules at;
}

pub they_follow : (file : List ℕ) (owner : Owner) (at : ℕ) (ks : List Kept) → AllByRecursion (IsWritable owner) ks
    → HasBytes file at (list_bytes (ks ++ end ∷ []))
    → Follow file owner at (placed at ks) (behind_all at ks)
they_follow file owner at [] h b =
    let p = parts file at end (omega arith) (omega arith) (has_front file at (property_bytes end) [] b) in
    (refl, p.kind, omega (arith, p.long.fits))
they_follow file owner at (k ∷ ks) h b =
    let p = parts file at k h.0.kind h.0.short (has_front file at (property_bytes k) (list_bytes (ks ++ end ∷ [])) b) in
    let rest = rest_of file at k (ks ++ end ∷ []) b in (
      refl,
      one_stands file owner at k h.0 p (next_short owner file (at + 8 + length k.payload) ks h.1 rest),
      they_follow file owner (at + 8 + length k.payload) ks h.1 rest,
    )

-- the end of the list
pub next_of : (at : ℕ) (ks : List Kept) → behind_all at ks + 8 ≡ at + length (list_bytes (ks ++ end ∷ []))
next_of at [] = omega (arith, property_bytes_length end, length-append (property_bytes end) [])
next_of at (k ∷ ks) =
    let one : at + length (property_bytes k ++ list_bytes (ks ++ end ∷ []))
    ≡ at + 8 + length k.payload + length (list_bytes (ks ++ end ∷ [])) =
    omega (arith, length-append (property_bytes k) (list_bytes (ks ++ end ∷ [])), property_bytes_length k) in
    next_of (at + 8 + length k.payload) ks ∙ sym one
