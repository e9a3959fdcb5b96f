-- What a list of properties that stands in a file of bytes says is within the limits of a document.
use Rattle.std.proofs.Common.{◌≡◌, ℕ, zero, suc, ◌+◌, ◌*◌, ◌^◌, ◌<◌, ◌≤◌, min, Bool, true, false, cond, not, ◌||◌}
use Rattle.std.proofs.Common.{◌&&◌, pos, List, [], ◌∷◌, length, take, drop, map, filter, slice_index, refl, sym, ap}
use Rattle.std.proofs.Common.{subst, arith}
use Rattle.std.specs.Prelude.{Ok, Err, Option, Some, None, option_map, unwrap_or, nat_le, ◌==◌, MatchBool, find, reverse}
use Rattle.std.specs.List.{AllByRecursion}
use Rattle.std.specs.Int.Signed.{le_z_yes}
use Rattle.std.proofs.lemmas.Bool.{leb-true, eqb-true, eq-eqb}
use Rattle.std.proofs.lemmas.List.{reverse-append, length-take-le, length-drop}
use Rattle.spec_document.specs.Rect.{count_from}
use Rattle.spec_document.specs.declared.Owner.{Owner}
use Rattle.spec_document.specs.declared.Owner.TheVariants.{Image, Layer, Channel, Mask}
use Rattle.spec_document.specs.Limits.{AreBytes, IsColour, IsKept, AreKept, is_offset, IsOffset, interprets, is_unit}
use Rattle.spec_document.specs.Limits.{is_unit_length}
use Rattle.spec_fields.specs.declared.ReadRefused.{ReadRefused}
use Rattle.spec_fields.specs.declared.Kind.TheVariants.{BadProperty}
use Rattle.spec_fields.specs.Reading.{Read, fault}
use Rattle.spec_fields.specs.Field.{name_at, Text}
use Rattle.spec_fields.proofs.Back.{bind_back, wants_back}
use Rattle.spec_fields.proofs.All.{all_take, all_drop, all_append}
use Rattle.spec_fields.proofs.FieldsBack.{one_read, name_has, bytes_below}
use Rattle.spec_fields.proofs.Below.{has_word_below}
use Rattle.spec_props.specs.Meaning.{Property, payload_word, payload_int, value_of, colour_number, colours_in}
use Rattle.spec_props.specs.Meaning.{colours_of, compression_of, opacity_of, x_of, y_of, kept_of}
use Rattle.spec_document.proofs.Offsets.{offset_is}
use Rattle.spec_props.specs.Rules.{rule, rule_of}
use Rattle.spec_props.specs.Unit.{names_end, named_end, length_up_to, unit_length, true_length}
use Rattle.spec_props.specs.Reading.{Properties, is_colour_map}
use Rattle.spec_props.specs.Holds.{IsColourMap, HasProperty, Follow, HasProperties}
use Rattle.spec_document.specs.declared.numbers.TheConstants.{COLOUR_MAP, COMPRESSION}

pub stand : (file : List ℕ) (owner : Owner) (at : ℕ) (ps : List Property) (end : ℕ) → Follow file owner at ps end
    → AllByRecursion (HasProperty file owner) ps
stand file owner at [] end f = tt
stand file owner at (p ∷ ps) end f = (f.1, stand file owner (at + 8 + length p.payload) ps end f.2)

module _ {X : Type 0} (Q : X → Type 0) where
  all_reverse : (xs : List X) → AllByRecursion Q xs → AllByRecursion Q (reverse xs)
  all_reverse [] h = tt
  all_reverse (x ∷ xs) h = subst (AllByRecursion Q) (sym (reverse-append (x ∷ []) xs))
      (all_append Q (reverse xs) (x ∷ []) (all_reverse xs h.1) (h.0, tt))

  -- what is found passes the test
  find_holds : (test : X → Bool) (R : Option X → Type 0) → R None → ((x : X) → Q x → test x ≡ true → R (Some x)) → (xs : List X)
      → AllByRecursion Q xs → R (find test xs)
  find_holds test R none some [] h = none
  find_holds test R none some (x ∷ xs) h = by (test x) refl (find_holds test R none some xs h.1)
    where
      by : (b : Bool) → test x ≡ b → R (find test xs) → R (cond b (Some x) (find test xs))
      by true t rest = some x h.0 t
      by false t rest = rest

-- the value of the last property of a kind, where each such property has one of these values, and so has a list without one
value_holds : {A : Type 0} (P : A → Type 0) (file : List ℕ) (owner : Owner) (kind : ℕ) (value : Property
    → A) (default : A) (ps : List Property)
    → AllByRecursion (HasProperty file owner) ps → ((p : Property) → HasProperty file owner p → p.kind ≡ kind → P (value p))
    → P default → P (value_of kind value default ps)
value_holds P file owner kind value default ps h each none =
    find_holds (HasProperty file owner) (λ p. p.kind == kind) (λ o. P (unwrap_or (option_map value o) default)) none
    (λ p q t. each p q (eqb-true p.kind kind t)) (reverse ps) (all_reverse (HasProperty file owner) ps h)

-- the rule holds, and so do the next ones
rule_back : (holds : Bool) (refused : ReadRefused) (next : Option ReadRefused) → rule holds refused next ≡ None
    → (holds ≡ true) × (next ≡ None)
rule_back true refused next e = (refl, e)
rule_back false refused next e = cc

-- the same property, of a kind that it is known to have
abbrev of_kind : Property → ℕ → Property
of_kind p kind = record { at = p.at; kind = kind; payload = p.payload }

rule_at : (file : List ℕ) (owner : Owner) (p : Property) (kind : ℕ) → HasProperty file owner p → p.kind ≡ kind
    → rule_of owner (of_kind p kind) ≡ None
rule_at file owner p kind h e = subst (λ k. rule_of owner (of_kind p k) ≡ None) e h.rules

payload_bytes : (file : List ℕ) (owner : Owner) (p : Property) → AreBytes file → HasProperty file owner p → AreBytes p.payload
payload_bytes file owner p all h = subst AreBytes h.payload.are (bytes_below file (p.at + 8) (length p.payload) all)

pub compression_within : (file : List ℕ) (ps : List Property) → AllByRecursion (HasProperty file Image) ps → compression_of ps ≤ 1
compression_within file ps h =
    value_holds (λ n. n ≤ 1) file Image 17 (λ p. slice_index p.payload 0) 0 ps h
    (λ p q e. let a = rule_back (length p.payload == 1) _ _ (rule_at file Image p 17 q e) in
    let b = rule_back (nat_le (slice_index p.payload 0) 1) _ _ a.1 in
    leb-true (slice_index p.payload 0) 1 b.0)
    (omega arith)

pub opacity_within : (file : List ℕ) (ps : List Property) → AllByRecursion (HasProperty file Layer) ps → opacity_of ps ≤ 255
opacity_within file ps h =
    value_holds (λ n. n ≤ 255) file Layer 6 (λ p. min 255 (payload_word p 0)) 255 ps h (λ p q e. omega arith) (omega arith)

both_hold : (a b : Bool) → (a && b) ≡ true → (a ≡ true) × (b ≡ true)
both_hold true true e = (refl, refl)
both_hold true false e = cc
both_hold false b e = cc

no_offset : IsOffset (pos 0)
no_offset = (le_z_yes tt, le_z_yes tt)

pub x_within : (file : List ℕ) (ps : List Property) → AllByRecursion (HasProperty file Layer) ps → IsOffset (x_of ps)
x_within file ps h =
    value_holds IsOffset file Layer 15 (λ p. payload_int p 0) (pos 0) ps h
    (λ p q e. let a = rule_back (length p.payload == 8) _ _ (rule_at file Layer p 15 q e) in
    let b = rule_back (is_offset (payload_int p 0)) _ _ a.1 in
    offset_is (payload_int p 0) b.0)
    no_offset

pub y_within : (file : List ℕ) (ps : List Property) → AllByRecursion (HasProperty file Layer) ps → IsOffset (y_of ps)
y_within file ps h =
    value_holds IsOffset file Layer 15 (λ p. payload_int p 1) (pos 0) ps h
    (λ p q e. let a = rule_back (length p.payload == 8) _ _ (rule_at file Layer p 15 q e) in
    let b = rule_back (is_offset (payload_int p 0)) _ _ a.1 in
    let c = rule_back (is_offset (payload_int p 1)) _ _ b.1 in
    offset_is (payload_int p 1) c.0)
    no_offset

colours_numbered : (p : Property) (first n : ℕ) → AreBytes p.payload → 4 + 3 * (first + n) ≤ length p.payload
    → (length (map (colour_number p) (count_from first n)) ≡ n)
    × AllByRecursion IsColour (map (colour_number p) (count_from first n))
colours_numbered p first zero all fits = (refl, tt)
colours_numbered p first (suc n) all fits =
    let more = colours_numbered p (suc first) n all (omega (arith, fits)) in
    let rest = drop (4 + 3 * first) p.payload in
    let size : length (take 3 rest) ≡ 3 = length-take-le 3 rest (omega (arith, fits, length-drop (4 + 3 * first) p.payload)) in
    (ap suc more.0, ((size, all_take (λ b. b < 256) 3 rest (all_drop (λ b. b < 256) (4 + 3 * first) p.payload all)), more.1))

pub colours_within : (file : List ℕ) (ps : List Property) → AreBytes file → AllByRecursion (HasProperty file Image) ps
    → (length (colours_of ps) ≤ 256) × AllByRecursion IsColour (colours_of ps)
colours_within file ps all h =
    value_holds (λ cs. (length cs ≤ 256) × AllByRecursion IsColour cs) file Image 1 colours_in [] ps h
    (λ p q e. let t : (p.kind == COLOUR_MAP) ≡ true = eq-eqb p.kind 1 e in
    let m : IsColourMap p = subst (λ b.
    MatchBool b (IsColourMap p) ((true_length file Image p.kind (p.at + 8) q.length_word ≡ length p.payload)
    × (q.length_word ≤ 2 ^ 24))) t q.length_is in
    let c = colours_numbered p 0 (payload_word p 0) (payload_bytes file Image p all q) (omega (arith, m.2)) in
    (omega (arith, c.0, m.1), c.1))
    (omega arith, tt)

-- a name takes at most 4101 bytes
name_short : (file : List ℕ) (at : ℕ) (text : Text) → name_at file at ≡ Ok text → text.next ≤ at + 4101
name_short file at text e = let h = name_has file at text e in omega (arith, h.next, h.short)

names_short : (count : ℕ) (file : List ℕ) (at end : ℕ) → names_end count file at ≡ Ok end → end ≤ at + count * 4101
unfolding names_end
names_short zero file at end e = omega (arith, one_read at end e)
names_short (suc count) file at end e =
    let a = bind_back (name_at file at) _ end e in
    omega (arith, name_short file at a.0 a.1, names_short count file a.0.next end a.2)

named_short : (file : List ℕ) (at n end : ℕ) → named_end file at n ≡ Ok end → end ≤ at + 20513
unfolding named_end
named_short file at n end e =
    let a = bind_back (name_at file (at + 8)) _ end e in
    let b = wants_back (n == length a.0.name + 5) (fault BadProperty at) _ end a.2 in
    omega (arith, name_short file (at + 8) a.0 a.1, names_short 4 file a.0.next end b.1)

unit_short : (file : List ℕ) (at n : ℕ) → n ≤ 2 ^ 24 → unit_length file at n ≤ 2 ^ 24
unit_short file at n h = by (named_end file at n) refl
  where
    by : (r : Read ℕ) → named_end file at n ≡ r → length_up_to at n r ≤ 2 ^ 24
    by (Ok end) e = omega (arith, named_short file at n end e)
    by (Err refused) e = h

length_short : (b : Bool) (named n : ℕ) → named ≤ 2 ^ 24 → n ≤ 2 ^ 24 → cond b named n ≤ 2 ^ 24
length_short true named n p q = p
length_short false named n p q = q

not_map : (owner : Owner) (kind : ℕ) → interprets owner kind ≡ false → is_colour_map owner kind ≡ false
not_map Image kind e = by (kind == COLOUR_MAP) e
  where
    by : (b : Bool) → (b || kind == COMPRESSION) ≡ false → b ≡ false
    by true e = cc
    by false e = refl
not_map Layer kind e = refl
not_map Channel kind e = refl
not_map Mask kind e = refl

unit_ok : (file : List ℕ) (owner : Owner) (p : Property) → HasProperty file owner p → is_unit owner p.kind ≡ true
    → is_unit_length (length p.payload) ≡ true
unit_ok file Image p h u =
    let a = rule_back (is_unit_length (length p.payload)) (fault BadProperty p.at) None
    (rule_at file Image p 24 h (eqb-true p.kind 24 u)) in a.0
unit_ok file Layer p h u = cc
unit_ok file Channel p h u = cc
unit_ok file Mask p h u = cc

is_kept : (file : List ℕ) (owner : Owner) (p : Property) → AreBytes file → HasProperty file owner p
    → interprets owner p.kind ≡ false → IsKept owner (record { kind = p.kind; payload = p.payload })
is_kept file owner p all h e =
    let m : (true_length file owner p.kind (p.at + 8) h.length_word ≡ length p.payload) × (h.length_word ≤ 2 ^ 24) =
    subst (λ b. MatchBool b (IsColourMap p) ((true_length file owner p.kind (p.at + 8) h.length_word ≡ length p.payload)
    × (h.length_word ≤ 2 ^ 24))) (not_map owner p.kind e) h.length_is in
    let short : true_length file owner p.kind (p.at + 8) h.length_word ≤ 2 ^ 24 =
    length_short (is_unit owner p.kind) _ _ (unit_short file (p.at + 8) h.length_word m.1) m.1 in
    record {
      kind = has_word_below file p.at p.kind all h.kind;
      not_end = h.not_end;
      not_known = e;
      short = subst (λ n. n ≤ 2 ^ 24) m.0 short;
      bytes = payload_bytes file owner p all h;
      unit = unit_ok file owner p h;
    }

each_kept : (file : List ℕ) (owner : Owner) (ps : List Property) → AreBytes file → AllByRecursion (HasProperty file owner) ps
    → AllByRecursion (IsKept owner) (kept_of owner ps)
each_kept file owner [] all h = tt
each_kept file owner (p ∷ ps) all h = by (interprets owner p.kind) refl (each_kept file owner ps all h.1)
  where
    by : (b : Bool) → interprets owner p.kind ≡ b → AllByRecursion (IsKept owner) (kept_of owner ps)
        → AllByRecursion (IsKept owner)
        (map (λ q. record { kind = q.kind; payload = q.payload })
        (cond (not b) (p ∷ filter (λ q. not (interprets owner q.kind)) ps)
        (filter (λ q. not (interprets owner q.kind)) ps)))
    by true t rest = rest
    by false t rest = (is_kept file owner p all h.0 t, rest)

pub kept_within : (file : List ℕ) (owner : Owner) (at : ℕ) (ps : Properties) → AreBytes file → HasProperties file owner at ps
    → AreKept owner (kept_of owner ps.list)
kept_within file owner at ps all h =
    record { few = h.few_kept; each = each_kept file owner ps.list all (stand file owner at ps.list ps.end h.follow) }
