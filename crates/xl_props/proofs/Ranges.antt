-- The values of properties that reading found right are in their ranges.
use Rattle.std.proofs.Common.{◌≡◌, ℕ, zero, suc, ◌+◌, ◌*◌, ◌/◌, ◌%◌, ◌^◌, ◌<◌, ◌≤◌, Bool, true, false, cond, not, ◌&&◌}
use Rattle.std.proofs.Common.{List, [], ◌∷◌, length, drop, map, filter, reverse, refl, sym, ap, subst, arith}
use Rattle.std.specs.Prelude.{◌==◌, nat_le, nat_lt, Option, Some, None, option_map, find, IfSome, slice_index}
use Rattle.std.specs.List.{AllByRecursion}
use Rattle.std.proofs.lemmas.Bool.{leb-true, ltb-true, eqb-true}
use Rattle.std.proofs.lemmas.List.{length-take, length-drop, reverse-append}
use Rattle.spec_document.specs.Rect.{count_from}
use Rattle.spec_document.specs.declared.Owner.{Owner}
use Rattle.spec_document.specs.declared.Owner.TheVariants.{Image, Layer, Channel, Mask}
use Rattle.spec_document.specs.Limits.{interprets, is_unit, is_unit_length, IsColour, is_offset, IsKept}
use Rattle.spec_document.proofs.Offsets.{offset_is}
use Rattle.spec_fields.specs.declared.ReadRefused.{ReadRefused}
use Rattle.spec_fields.specs.declared.Kind.TheVariants.{BadProperty, Compression, OffsetRange}
use Rattle.spec_fields.specs.Reading.{fault, fault_with}
use Rattle.spec_fields.proofs.All.{all_take, all_drop, all_append}
use Rattle.spec_fields.proofs.Below.{word_below}
use Rattle.spec_props.specs.Meaning.{Property, payload_word, payload_int, colour_number, colours_in, path_words, kept_of}
use Rattle.spec_props.specs.Rules.{rule, rule_of, offsets_rule}
use Rattle.xl_props.specs.Known.{AreFewColours, AreOffsets, IsPath, IsKnown}
use Rattle.xl_props.specs.Props.{property, if_any, known_of, compression_in, opacity_in, offsets_in}
use Rattle.xl_props.specs.Checked.{IsChecked}
use Rattle.xl_props.specs.After.{as_kept}
use Rattle.spec_document.specs.declared.numbers.TheConstants.{COLOUR_MAP, OFFSETS, COMPRESSION, ITEM_PATH}

both : (a b : Bool) → (a && b) ≡ true → (a ≡ true) × (b ≡ true)
both true b e = (refl, e)
both false b e = cc

-- no rule failed, so this one held, and none behind it failed
rule_held : (holds : Bool) (refused : ReadRefused) (next : Option ReadRefused) → rule holds refused next ≡ None
    → (holds ≡ true) × (next ≡ None)
rule_held true refused next e = (refl, e)
rule_held false refused next e = cc

module _ {X : Type 0} (P : X → Type 0) where
  all_reverse : (xs : List X) → AllByRecursion P xs → AllByRecursion P (reverse xs)
  all_reverse [] h = tt
  all_reverse (x ∷ xs) h = subst (AllByRecursion P) (sym (reverse-append (x ∷ []) xs))
      (all_append P (reverse xs) (x ∷ []) (all_reverse xs h.1) (h.0, tt))

  if_found : {A : Type 0} (test : X → Bool) (value : X → A) (Q : A → Type 0) → ((x : X) → P x → test x ≡ true → Q (value x))
      → (xs : List X) → AllByRecursion P xs → IfSome (option_map value (find test xs)) Q
  if_found test value Q each [] h = tt
  if_found test value Q each (x ∷ xs) h = by (test x) (each x h.0) (if_found test value Q each xs h.1)
    where
      by : (b : Bool) → (b ≡ true → Q (value x)) → IfSome (option_map value (find test xs)) Q
          → IfSome (option_map value (cond b (Some x) (find test xs))) Q
      by true here later = here refl
      by false here later = later

counted_from : {X : Type 0} (Q : X → Type 0) (f : ℕ → X) (first n : ℕ) → ((i : ℕ) → i < n → Q (f (first + i)))
    → AllByRecursion Q (map f (count_from first n))
counted_from Q f first zero h = tt
counted_from Q f first (suc n) h =
    let here : first + 0 ≡ first = omega arith in
    let at : ℕ → Type 0 = λ k. Q (f k) in (
      subst at here (h 0 (omega arith)),
      counted_from Q f (suc first) n (λ i l. let e : first + suc i ≡ suc first + i = omega arith in
          subst at e (h (suc i) (omega arith))),
    )

-- each of the values of the numbers below n
all_counted : {X : Type 0} (Q : X → Type 0) (f : ℕ → X) (n : ℕ) → ((i : ℕ) → i < n → Q (f i))
    → AllByRecursion Q (map f (count_from 0 n))
all_counted Q f n h =
    counted_from Q f 0 n (λ i l. let e : i ≡ 0 + i = omega arith in let at : ℕ → Type 0 = λ k. Q (f k) in subst at e (h i l))

length_counted : {X : Type 0} (f : ℕ → X) (first n : ℕ) → length (map f (count_from first n)) ≡ n
length_counted f first zero = refl
length_counted f first (suc n) = ap suc (length_counted f (suc first) n)

-- what holds of the value of each property of a kind holds of that of the last
if_last : {A : Type 0} (owner : Owner) (kind : ℕ) (value : Property → A) (Q : A → Type 0)
    → ((p : Property) → IsChecked owner p → p.kind ≡ kind → Q (value p))
    → (ps : List Property) → AllByRecursion (IsChecked owner) ps → IfSome (if_any kind value ps) Q
if_last owner kind value Q each ps h =
    if_found (IsChecked owner) (λ p. p.kind == kind) value Q (λ p checked e. each p checked (eqb-true p.kind kind e)) (reverse ps)
    (all_reverse (IsChecked owner) ps h)

few_colours : (p : Property) → IsChecked Image p → p.kind ≡ COLOUR_MAP → AreFewColours (colours_in p)
few_colours p h e =
    let map_is = h.colours (ap (λ k. k == 1) e) in
    let n = payload_word p 0 in (
      omega (arith, length_counted (colour_number p) 0 n, map_is.1),
      all_counted IsColour (colour_number p) n (λ i l.
          let long : length (colour_number p i) ≡ 3 =
          omega (arith, length-take 3 (drop (4 + 3 * i) p.payload), length-drop (4 + 3 * i) p.payload, map_is.2, l) in
          (long, all_take (λ b. b < 256) 3 (drop (4 + 3 * i) p.payload) (all_drop (λ b. b < 256) (4 + 3 * i) p.payload h.bytes))),
    )

-- the rules of a kind held
rules_of_kind : (owner : Owner) (kind : ℕ) (p : Property) → IsChecked owner p → p.kind ≡ kind
    → rule_of owner (property 0 kind p.payload) ≡ None
rules_of_kind owner kind p h e = let P : ℕ → Type 0 = λ k. rule_of owner (property 0 k p.payload) ≡ None in subst P e h.rules

known_code : (p : Property) → IsChecked Image p → p.kind ≡ COMPRESSION → compression_in p ≤ 1
known_code p h e =
    let q = property 0 17 p.payload in
    let code = slice_index p.payload 0 in
    let long = rule_held (length p.payload == 1) (fault BadProperty 0) (rule (nat_le code 1) (fault_with Compression 8 code) None)
    (rules_of_kind Image 17 p h e) in
    leb-true code 1 (rule_held (nat_le code 1) (fault_with Compression 8 code) None long.1).0

near_offsets : (p : Property) → IsChecked Layer p → p.kind ≡ OFFSETS → AreOffsets (offsets_in p)
near_offsets p h e =
    let q = property 0 15 p.payload in
    let long = rule_held (length p.payload == 8) (fault BadProperty 0) (offsets_rule q) (rules_of_kind Layer 15 p h e) in
    let x = rule_held (is_offset (payload_int p 0)) (fault OffsetRange 8)
    (rule (is_offset (payload_int p 1)) (fault OffsetRange 12) None) long.1 in
    let y = rule_held (is_offset (payload_int p 1)) (fault OffsetRange 12) None x.1 in
    (offset_is (payload_int p 0) x.0, offset_is (payload_int p 1) y.0)

some_path : (p : Property) → IsChecked Layer p → p.kind ≡ ITEM_PATH → IsPath (path_words p)
some_path p h e =
    let n = length p.payload in
    let whole = rule_held (nat_lt 0 n && (n % 4 == 0)) (fault BadProperty 0) None (rules_of_kind Layer 30 p h e) in
    let parts = both (nat_lt 0 n) (n % 4 == 0) whole.0 in
    let some : 0 < n = ltb-true 0 n parts.0 in
    let fours : n % 4 ≡ 0 = eqb-true (n % 4) 0 parts.1 in
    let count = length_counted (payload_word p) 0 (n / 4) in (
      omega (arith, count, some, fours),
      omega (arith, count, h.short),
      all_counted (λ word. word < 2 ^ 32) (payload_word p) (n / 4) (λ i l. word_below p.payload (4 * i) h.bytes),
    )

small_opacity : (p : Property) → opacity_in p ≤ 255
small_opacity p = omega arith

pub known_in_range : (owner : Owner) (ps : List Property) → AllByRecursion (IsChecked owner) ps → IsKnown owner (known_of owner ps)
known_in_range Image ps h = record {
  owned = refl;
  in_colours = if_last Image 1 colours_in AreFewColours few_colours ps h;
  in_compression = if_last Image 17 compression_in (λ code. code ≤ 1) known_code ps h;
  in_opacity = tt;
  in_offsets = tt;
  in_path = tt;
}
known_in_range Layer ps h = record {
  owned = refl;
  in_colours = tt;
  in_compression = tt;
  in_opacity = if_last Layer 6 opacity_in (λ opacity. opacity ≤ 255) (λ p checked e. small_opacity p) ps h;
  in_offsets = if_last Layer 15 offsets_in AreOffsets near_offsets ps h;
  in_path = if_last Layer 30 path_words IsPath some_path ps h;
}
known_in_range Channel ps h =
    record { owned = refl; in_colours = tt; in_compression = tt; in_opacity = tt; in_offsets = tt; in_path = tt }
known_in_range Mask ps h =
    record { owned = refl; in_colours = tt; in_compression = tt; in_opacity = tt; in_offsets = tt; in_path = tt }

unit_length_fits : (owner : Owner) (p : Property) → IsChecked owner p → is_unit owner p.kind ≡ true
    → is_unit_length (length p.payload) ≡ true
unit_length_fits Image p h e =
    (rule_held (is_unit_length (length p.payload)) (fault BadProperty 0) None (rules_of_kind Image 24 p h (eqb-true p.kind 24 e))).0
unit_length_fits Layer p h e = cc
unit_length_fits Channel p h e = cc
unit_length_fits Mask p h e = cc

pub each_kept : (owner : Owner) (ps : List Property) → AllByRecursion (IsChecked owner) ps
    → AllByRecursion (IsKept owner) (kept_of owner ps)
each_kept owner [] h = tt
each_kept owner (p ∷ ps) h = by (interprets owner p.kind) refl (each_kept owner ps h.1)
  where
    others : List Property
    others = filter (λ q. not (interprets owner q.kind)) ps

    by : (b : Bool) → interprets owner p.kind ≡ b → AllByRecursion (IsKept owner) (map as_kept others)
        → AllByRecursion (IsKept owner) (map as_kept (cond (not b) (p ∷ others) others))
    by true e rest = rest
    by false e rest = (
      record {
        kind = h.0.kind;
        not_end = h.0.not_end;
        not_known = e;
        short = h.0.short;
        bytes = h.0.bytes;
        unit =
            unit_length_fits owner p h.0;
      },
      rest,
    )
