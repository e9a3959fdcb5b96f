-- The first payload that takes what is kept past the limit, in the list of all properties and in the list of those that are kept.
use Rattle.std.proofs.Common.{◌≡◌, ℕ, suc, ◌+◌, ◌<◌, ◌≤◌, ◌^◌, Bool, true, false, cond, List, [], ◌∷◌, length, take}
use Rattle.std.proofs.Common.{drop, get_or, refl, sym, ◌∙◌, ap, arith, add-one}
use Rattle.std.specs.Prelude.{not, nat_le, map, filter, Option, Some}
use Rattle.std.proofs.Math.Seq.{drop-cons}
use Rattle.std.proofs.lemmas.List.{length-map}
use Rattle.std.proofs.lemmas.Bool.{le-leb, leb-true, lt-leb}
use Rattle.spec_document.specs.declared.Owner.{Owner}
use Rattle.spec_document.specs.declared.Owner.TheVariants.{Image, Layer, Channel, Mask}
use Rattle.std.proofs.lemmas.List.Sums.{sum_by_more}
use Rattle.spec_document.specs.Document.{Kept, kept_bytes}
use Rattle.spec_document.specs.Limits.{interprets}
use Rattle.spec_fields.specs.declared.ReadRefused.{ReadRefused}
use Rattle.spec_fields.specs.declared.Kind.TheVariants.{TooLarge}
use Rattle.spec_fields.specs.Reading.{fault}
use Rattle.spec_fields.proofs.Steps.{chosen_true, chosen_false}
use Rattle.spec_props.specs.Meaning.{Property, kept_of}
use Rattle.spec_props.specs.Reading.{Properties}
use Rattle.spec_file.specs.Placing.{passes}
use Rattle.xl_props.specs.declared.answer.Props.{Props}
use Rattle.xl_props.specs.Props.{places_of, kept_places}
use Rattle.xl_read.specs.Listing.{over, Keeps}

-- a payload that fits is passed
pub over_next : (ks : List Kept) (places : List ℕ) (total i : ℕ) (k : Kept) → i < length ks → i < length places → k ≡ get_or ks i k
    → total + length k.payload ≤ 2 ^ 28
    → over total (drop i ks) (drop i places) ≡ over (total + length k.payload) (drop (i + 1) ks) (drop (i + 1) places)
over_next ks places total i k inside placed is fits =
    let front : drop i ks ≡ k ∷ drop (i + 1) ks = rw add-one (drop-cons ks i k inside ∙ ap (λ x. x ∷ drop (suc i) ks) (sym is)) in
    let place : drop i places ≡ get_or places i 0 ∷ drop (i + 1) places = rw add-one (drop-cons places i 0 placed) in
    let more : Option ReadRefused = over (total + length k.payload) (drop (i + 1) ks) (drop (i + 1) places) in
    (λ j. over total (front j) (place j))
    ∙ chosen_true (nat_le (total + length k.payload) (2 ^ 28)) more (Some (fault TooLarge (get_or places i 0)))
    (le-leb (total + length k.payload) (2 ^ 28) fits)

-- one that does not is refused
pub over_here : (ks : List Kept) (places : List ℕ) (total i : ℕ) (k : Kept) → i < length ks → i < length places → k ≡ get_or ks i k
    → 2 ^ 28 < total + length k.payload → over total (drop i ks) (drop i places) ≡ Some (fault TooLarge (get_or places i 0))
over_here ks places total i k inside placed is past =
    let front : drop i ks ≡ k ∷ drop (i + 1) ks = rw add-one (drop-cons ks i k inside ∙ ap (λ x. x ∷ drop (suc i) ks) (sym is)) in
    let place : drop i places ≡ get_or places i 0 ∷ drop (i + 1) places = rw add-one (drop-cons places i 0 placed) in
    let more : Option ReadRefused = over (total + length k.payload) (drop (i + 1) ks) (drop (i + 1) places) in
    (λ j. over total (front j) (place j))
    ∙ chosen_false (nat_le (total + length k.payload) (2 ^ 28)) more (Some (fault TooLarge (get_or places i 0)))
    (lt-leb (total + length k.payload) (2 ^ 28) past)

module _ (owner : Owner) where
  -- what is not kept passes
  pub passes_over : (before : ℕ) (ps : List Property) → before ≤ 2 ^ 28
      → passes owner before ps ≡ over before (kept_of owner ps) (kept_places owner ps)
  passes_over before [] small = refl
  passes_over before (p ∷ ps) small = by (interprets owner p.kind) (λ total h. passes_over total ps h)
    where
      by : (b : Bool) → ((total : ℕ) → total ≤ 2 ^ 28
          → passes owner total ps ≡ over total (kept_of owner ps) (kept_places owner ps))
          → (let total = cond b before (before + length p.payload) in
          cond (nat_le total (2 ^ 28)) (passes owner total ps) (Some (fault TooLarge p.at)))
          ≡ over before
          (map (λ q. record { kind = q.kind; payload = q.payload })
          (cond (not b) (p ∷ filter (λ q. not (interprets owner q.kind)) ps) (filter (λ q. not (interprets owner q.kind)) ps)))
          (map (λ q. q.at) (cond (not b) (p ∷ filter (λ q. not (interprets owner q.kind)) ps)
          (filter (λ q. not (interprets owner q.kind)) ps)))
      by true rest = chosen_true (nat_le before (2 ^ 28)) (passes owner before ps) (Some (fault TooLarge p.at))
          (le-leb before (2 ^ 28) small) ∙ rest before small
      by false rest = kept (nat_le (before + length p.payload) (2 ^ 28)) refl
        where
          kept : (test : Bool) → nat_le (before + length p.payload) (2 ^ 28) ≡ test
              → cond test (passes owner (before + length p.payload) ps) (Some (fault TooLarge p.at))
              ≡ cond test (over (before + length p.payload) (kept_of owner ps) (kept_places owner ps)) (Some (fault TooLarge p.at))
          kept true e = rest (before + length p.payload) (leb-true (before + length p.payload) (2 ^ 28) e)
          kept false e = refl

places_are : (owner : Owner) (ps : Properties) → (places_of owner ps).kept ≡ kept_places owner ps.list
places_are Image ps = refl
places_are Layer ps = refl
places_are Channel ps = refl
places_are Mask ps = refl

-- each that is kept has its place
pub kept_count : (owner : Owner) (ps : Properties) (props : Props) → Keeps owner ps props
    → length props.places.kept ≡ length props.kept
kept_count owner ps props keeps =
    let others : List Property = filter (λ q. not (interprets owner q.kind)) ps.list in
    ap (λ p. length p.places.kept) (sym keeps.says)
    ∙ (ap length (places_are owner ps)
    ∙ (length-map others (λ (q : Property). q.at)
    ∙ (sym (length-map others (λ (q : Property). let k : Kept = record { kind = q.kind; payload = q.payload } in k))
    ∙ ap (λ p. length p.kept) keeps.says)))

-- the rule over all properties is the one over those that are kept
pub kept_rule : (owner : Owner) (ps : Properties) (props : Props) (before : ℕ) → Keeps owner ps props → before ≤ 2 ^ 28
    → passes owner before ps.list ≡ over before props.kept props.places.kept
kept_rule owner ps props before keeps small =
    passes_over owner before ps.list small
    ∙ (ap (over before (kept_of owner ps.list)) (sym (places_are owner ps))
    ∙ ap (λ p. over before p.kept p.places.kept) keeps.says)

-- what the loop over the payloads knows
pub record Passed (before : ℕ) (ks : List Kept) (places : List ℕ) (i total : ℕ) : Type 0 where
  pub same : over before ks places ≡ over total (drop i ks) (drop i places)
  pub sum : total ≡ before + kept_bytes (take i ks)
  pub fits : total ≤ 2 ^ 28
  pub placed : length places ≡ length ks

-- one more payload
pub passed_next : (before : ℕ) (ks : List Kept) (places : List ℕ) (i total bytes : ℕ) (k : Kept) → Passed before ks places i total
    → i < length ks → k ≡ get_or ks i k
    → bytes ≡ length k.payload → total + bytes ≤ 2 ^ 28 → Passed before ks places (i + 1) (total + bytes)
passed_next before ks places i total bytes k h inside is len fits =
    let more = sum_by_more (λ k. length k.payload) ks i k inside in
    let size : length (get_or ks i k).payload ≡ bytes = ap (λ k. length k.payload) (sym is) ∙ sym len in
    let fits : total + length k.payload ≤ 2 ^ 28 = omega arith in
    record {
      same = h.same ∙ (over_next ks places total i k inside (omega (arith, h.placed)) is fits
          ∙ ap (λ n. over (total + n) (drop (i + 1) ks) (drop (i + 1) places)) (sym len));
      sum = omega (arith, h.sum, more, size);
      fits = omega arith;
      placed = h.placed;
    }

-- the payload that does not fit
pub passed_not : (before : ℕ) (ks : List Kept) (places : List ℕ) (i total bytes : ℕ) (k : Kept) → Passed before ks places i total
    → i < length ks → k ≡ get_or ks i k
    → bytes ≡ length k.payload → 2 ^ 28 < total + bytes → over before ks places ≡ Some (fault TooLarge (get_or places i 0))
passed_not before ks places i total bytes k h inside is len past =
    h.same ∙ over_here ks places total i k inside (omega (arith, h.placed)) is (omega arith)
