-- A list of properties that was read stands in the file.
use Rattle.std.proofs.Common.{◌≡◌, ◌≢◌, ℕ, zero, suc, ◌+◌, ◌-◌, ◌*◌, ◌^◌, ◌≤◌, Bool, true, false, cond, not, ◌||◌}
use Rattle.std.proofs.Common.{List, [], ◌∷◌, length, map, filter, nat_lt, refl, sym, ◌∙◌, ap, subst, arith}
use Rattle.std.specs.Prelude.{Ok, nat_le, ◌==◌, MatchBool}
use Rattle.std.proofs.lemmas.Bool.{leb-true, ltb-true, eqb-true, eqb-false}
use Rattle.spec_document.specs.declared.Owner.{Owner}
use Rattle.spec_document.specs.Document.{Kept}
use Rattle.spec_document.specs.Limits.{interprets}
use Rattle.spec_fields.specs.declared.Kind.TheVariants.{Truncated, BadProperty, TooMany}
use Rattle.spec_fields.specs.Reading.{◌>>=◌, fault, wants}
use Rattle.spec_fields.specs.Field.{bytes_at, HasWord, HasBytes}
use Rattle.spec_fields.proofs.Fields.{has_first_word}
use Rattle.spec_fields.proofs.Back.{bind_back, wants_back}
use Rattle.spec_fields.proofs.FieldsBack.{word_first, unless_back, choice_back, has_bytes, length-bytes_at}
use Rattle.spec_props.specs.Meaning.{Property, payload_word, kept_of}
use Rattle.spec_props.specs.Rules.{rule_of}
use Rattle.spec_props.specs.Unit.{true_length}
use Rattle.spec_props.specs.Reading.{Properties, is_colour_map, payload_length_at, property_at, end_at, kept_after}
use Rattle.spec_props.specs.Reading.{list_at, properties_at}
use Rattle.spec_props.specs.Holds.{HasProperty, Follow, HasProperties}

-- how long a payload is, and that it fits
pub record HasLength (file : List ℕ) (owner : Owner) (kind at n : ℕ) : Type 0 where
  pub length_word : ℕ
  pub has_length : HasWord file (at + 4) length_word
  pub fits : at + 8 + n ≤ length file
  pub length_is : MatchBool (is_colour_map owner kind)
      ((count : ℕ) × HasWord file (at + 8) count × (count ≤ 256) × (n ≡ 4 + 3 * count))
      ((true_length file owner kind (at + 8) length_word ≡ n) × (length_word ≤ 2 ^ 24))

length_has : (file : List ℕ) (owner : Owner) (kind at n : ℕ) → payload_length_at file owner kind at ≡ Ok n
    → HasLength file owner kind at n
unfolding payload_length_at
length_has file owner kind at n e = by (is_colour_map owner kind) refl
  where
    by : (b : Bool) → is_colour_map owner kind ≡ b → HasLength file owner kind at n
    by true t =
        let a = word_first file (at + 4) _ n e in
        let c = word_first file (at + 8) _ n ((choice_back (is_colour_map owner kind) _ _ n a.2).0 t) in
        let d = wants_back (nat_le c.0 256) (fault BadProperty (at + 8)) _ n c.2 in
        let f = wants_back (nat_le (at + 12 + 3 * c.0) (length file)) (fault Truncated (at + 12)) _ n d.1 in
        let is : 4 + 3 * c.0 ≡ n = cc in
        record {
          length_word = a.0;
          has_length = a.1;
          fits = omega (arith, is, leb-true (at + 12 + 3 * c.0) (length file) f.0);
          length_is = subst (λ b. MatchBool b ((count : ℕ) × HasWord file (at + 8) count × (count ≤ 256)
              × (n ≡ 4 + 3 * count)) ((true_length file owner kind (at + 8) a.0 ≡ n) × (a.0 ≤ 2 ^ 24)))
              (sym t) (c.0, c.1, leb-true c.0 256 d.0, sym is);
        }
    by false t =
        let a = word_first file (at + 4) _ n e in
        let m = true_length file owner kind (at + 8) a.0 in
        let d = wants_back (nat_le a.0 (2 ^ 24)) (fault BadProperty (at + 4)) _ n
        ((choice_back (is_colour_map owner kind) _ _ n a.2).1 t) in
        let f = wants_back (nat_le (at + 8 + m) (length file)) (fault Truncated (at + 8)) _ n d.1 in
        let is : m ≡ n = cc in
        record {
          length_word = a.0;
          has_length = a.1;
          fits = omega (arith, is, leb-true (at + 8 + m) (length file) f.0);
          length_is = subst (λ b. MatchBool b ((count : ℕ) × HasWord file (at + 8) count × (count ≤ 256)
              × (n ≡ 4 + 3 * count)) ((m ≡ n) × (a.0 ≤ 2 ^ 24)))
              (sym t) (is, leb-true a.0 (2 ^ 24) d.0);
        }

-- a choice of facts, each from its own
by_facts : {P Q P' Q' : Type 0} (b : Bool) → (P → P') → (Q → Q') → MatchBool b P Q → MatchBool b P' Q'
by_facts true f g m = f m
by_facts false f g m = g m

pub property_has : (file : List ℕ) (owner : Owner) (kind at : ℕ) (p : Property) → HasWord file at kind → kind ≢ 0
    → property_at file owner kind at ≡ Ok p
    → (p.at ≡ at) × (p.kind ≡ kind) × HasProperty file owner p
unfolding property_at
property_has file owner kind at p word some e =
    let a = bind_back (payload_length_at file owner kind at) _ p e in
    let q : Property = record { at = at; kind = kind; payload = bytes_at file (at + 8) a.0 } in
    let b = unless_back (rule_of owner q) _ p a.2 in
    let h = length_has file owner kind at a.0 a.1 in
    let size : length q.payload ≡ a.0 = length-bytes_at file (at + 8) a.0 h.fits in
    let stands : HasBytes file (at + 8) q.payload = has_bytes file (at + 8) a.0 h.fits in
    let is : q ≡ p = cc in
    let P : Property → Type 0 = λ r. (r.at ≡ at) × (r.kind ≡ kind) × HasProperty file owner r in
    subst P is (
      refl,
      refl,
      record {
        kind = word;
        not_end = some;
        length_word = h.length_word;
        has_length = h.has_length;
        payload = stands;
        length_is = by_facts (is_colour_map owner kind)
            (λ m. let long : 4 ≤ length q.payload = omega (arith, size, m.3) in
            let same : payload_word q 0 ≡ m.0 = sym (has_first_word file (at + 8) q.payload long stands).is ∙ m.1.is in
            (long, omega (arith, same, m.2), omega (arith, same, size, m.3)))
            (λ m. (m.0 ∙ sym size, m.1))
            h.length_is;
        rules = b.0;
      },
    )

end_has : (file : List ℕ) (at : ℕ) (ps : Properties) → end_at file at ≡ Ok ps
    → (ps.list ≡ []) × (ps.end ≡ at) × (at + 8 ≤ length file)
unfolding end_at
end_has file at ps e =
    let a = word_first file (at + 4) _ ps e in
    let is : record { list = []; end = at } ≡ ps = cc in
    (ap (λ x. x.list) (sym is), ap (λ x. x.end) (sym is), omega (arith, a.1.fits))

-- the list stands at the offset, with at most so many properties, and so many that are kept
pub record HasList (room kept : ℕ) (file : List ℕ) (owner : Owner) (at : ℕ) (ps : Properties) : Type 0 where
  pub few : length ps.list ≤ room
  pub few_kept : length (kept_of owner ps.list) ≤ kept
  pub follow : Follow file owner at ps.list ps.end

ends_here : (room kept : ℕ) (file : List ℕ) (owner : Owner) (at kind : ℕ) (ps : Properties) → HasWord file at kind → kind ≡ 0
    → end_at file at ≡ Ok ps → HasList room kept file owner at ps
ends_here room kept file owner at kind ps word none e =
    let h = end_has file at ps e in
    let P : List Property → Type 0 = λ list. (length list ≤ room) × (length (kept_of owner list) ≤ kept)
    × Follow file owner at list ps.end in
    let all : P ps.list = subst P (sym h.0) (omega arith, omega arith, (h.1, subst (λ n. HasWord file at n) none word, h.2)) in
    record { few = all.0; few_kept = all.1; follow = all.2 }

abbrev kept_property : Property → Kept
kept_property q = record { kind = q.kind; payload = q.payload }

-- a property that is kept takes one of the room
kept_fits : (b : Bool) (p : Property) (ps : List Property) (owner : Owner) (kept : ℕ) → (b || nat_lt 0 kept) ≡ true
    → length (kept_of owner ps) ≤ cond b kept (kept - 1)
    → length (map kept_property (cond (not b) (p ∷ filter (λ q. not (interprets owner q.kind)) ps)
    (filter (λ q. not (interprets owner q.kind)) ps))) ≤ kept
kept_fits true p ps owner kept t h = h
kept_fits false p ps owner kept t h = omega (arith, h, ltb-true 0 kept t)

list_by : (room kept : ℕ) (file : List ℕ) (owner : Owner) (at kind : ℕ) (ps : Properties) → HasWord file at kind
    → ((rest_kept place : ℕ) (rest : Properties) → list_at room rest_kept file owner place ≡ Ok rest
    → HasList room rest_kept file owner place rest)
    → (b : Bool) → (kind == 0) ≡ b
    → ((kind == 0) ≡ true → end_at file at ≡ Ok ps)
    → ((kind == 0) ≡ false → (wants (interprets owner kind
    || nat_lt 0 kept) (fault TooMany at) >>= (λ _. property_at file owner kind at
    >>= (λ p. list_at room (kept_after owner kind kept) file owner (at + 8 + length p.payload) >>=
    (λ rest. Ok (record { list = p ∷ rest.list; end = rest.end }))))) ≡ Ok ps)
    → HasList (suc room) kept file owner at ps
list_by room kept file owner at kind ps word more true t ended goes_on =
    ends_here (suc room) kept file owner at kind ps word (eqb-true kind 0 t) (ended t)
list_by room kept file owner at kind ps word more false t ended goes_on =
    let a = wants_back (interprets owner kind || nat_lt 0 kept) (fault TooMany at) _ ps (goes_on t) in
    let b = bind_back (property_at file owner kind at) _ ps a.1 in
    let c = bind_back (list_at room (kept_after owner kind kept) file owner (at + 8 + length b.0.payload)) _ ps b.2 in
    let p = property_has file owner kind at b.0 word (eqb-false kind 0 t) b.1 in
    let h = more (kept_after owner kind kept) (at + 8 + length b.0.payload) c.0 c.1 in
    let q : Properties = record { list = b.0 ∷ c.0.list; end = c.0.end } in
    let is : q ≡ ps = cc in
    let kept_is : length (kept_of owner (b.0 ∷ c.0.list)) ≤ kept =
    subst (λ k. length (map kept_property
    (cond (not (interprets owner k)) (b.0 ∷ filter (λ r. not (interprets owner r.kind)) c.0.list)
    (filter (λ r. not (interprets owner r.kind)) c.0.list))) ≤ kept)
    (sym p.1) (kept_fits (interprets owner kind) b.0 c.0.list owner kept a.0 h.few_kept) in
    subst (HasList (suc room) kept file owner at) is
    (record { few = omega (arith, h.few); few_kept = kept_is; follow = (p.0, p.2, h.follow) })

list_has : (room kept : ℕ) (file : List ℕ) (owner : Owner) (at : ℕ) (ps : Properties) → list_at room kept file owner at ≡ Ok ps
    → HasList room kept file owner at ps
unfolding list_at
list_has zero kept file owner at ps e =
    let a = word_first file at _ ps e in
    let b = wants_back (a.0 == 0) (fault TooMany at) _ ps a.2 in
    ends_here zero kept file owner at a.0 ps a.1 (eqb-true a.0 0 b.0) b.1
list_has (suc room) kept file owner at ps e =
    let a = word_first file at _ ps e in
    let c = choice_back (a.0 == 0) _ _ ps a.2 in
    list_by room kept file owner at a.0 ps a.1 (λ rest_kept place rest. list_has room rest_kept file owner place rest)
    (a.0 == 0) refl c.0 c.1

pub properties_have : (file : List ℕ) (owner : Owner) (at : ℕ) (ps : Properties) → properties_at file owner at ≡ Ok ps
    → HasProperties file owner at ps
properties_have file owner at ps e =
    let h = list_has 1024 256 file owner at ps e in record { few = h.few; few_kept = h.few_kept; follow = h.follow }
