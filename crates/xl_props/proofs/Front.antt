-- Reading a list: what was read of it, and how the reading goes on behind.
use Rattle.std.proofs.Common.{◌≡◌, ℕ, suc, ◌+◌, ◌-◌, ◌^◌, ◌<◌, ◌≤◌, Bool, true, false, cond, ◌||◌, nat_lt, List, []}
use Rattle.std.proofs.Common.{◌∷◌, ◌++◌, length, refl, sym, ap, ◌∙◌, subst, arith}
use Rattle.std.specs.Prelude.{Ok, Err}
use Rattle.std.specs.List.{AllByRecursion}
use Rattle.std.proofs.lemmas.Bool.{ltb-true}
use Rattle.std.proofs.lemmas.List.{append_assoc, append-nil, length-append}
use Rattle.spec_document.specs.declared.Owner.{Owner}
use Rattle.spec_document.specs.declared.Owner.TheVariants.{Image, Layer, Channel, Mask}
use Rattle.spec_document.specs.Limits.{interprets, IsKept, AreKept}
use Rattle.spec_fields.specs.declared.ReadRefused.{ReadRefused}
use Rattle.spec_fields.specs.Reading.{Read, ◌>>=◌}
use Rattle.spec_fields.specs.Field.{word_at}
use Rattle.spec_fields.proofs.Steps.{onward}
use Rattle.spec_fields.proofs.All.{all_append}
use Rattle.spec_props.specs.Meaning.{Property}
use Rattle.spec_props.specs.Reading.{Properties, kept_after, list_at, properties_at}
use Rattle.xl_props.specs.declared.answer.Props.{Props}
use Rattle.xl_props.specs.Known.{IsKnown}
use Rattle.xl_props.specs.Props.{property, places_of, props_of, props_read}
use Rattle.xl_props.specs.Checked.{IsChecked}
use Rattle.xl_props.specs.After.{longer, as_kept, end_after, props_after}
use Rattle.xl_props.specs.Next.{with_first}
use Rattle.xl_props.proofs.More.{up_to, props_more}
use Rattle.xl_props.proofs.Ranges.{known_in_range, each_kept}

-- what is read behind some properties, with these in front
abbrev pub behind : List Property → Read Properties → Read Properties
behind front read = read >>= (λ rest. Ok (up_to (front ++ rest.list) rest.end))

behind_one : (front : List Property) (p : Property) (read : Read Properties)
    → behind (front ++ p ∷ []) read ≡ behind front (with_first p read)
behind_one front p (Ok rest) = ap (λ ps. Ok (up_to ps rest.end)) (append_assoc front (p ∷ []) rest.list)
behind_one front p (Err e) = refl

behind_none : (read : Read Properties) → behind [] read ≡ read
behind_none (Ok rest) = refl
behind_none (Err e) = refl

-- what is known after i properties of the list at an offset
pub record Front (file : List ℕ) (owner : Owner) (at i : ℕ) (props : Props) : Type 0 where
  pub list : List Property
  pub is : props ≡ props_of owner (up_to list props.places.end)
  pub checked : AllByRecursion (IsChecked owner) list
  pub few : length props.kept ≤ 256
  pub place : props.places.end < 2 ^ 63
  pub rest : (room : ℕ) → i + room ≡ 1024
      → behind list (list_at room (256 - length props.kept) file owner props.places.end) ≡ list_at 1024 256 file owner at

places_end : (owner : Owner) (ps : Properties) → (places_of owner ps).end ≡ ps.end
places_end Image ps = refl
places_end Layer ps = refl
places_end Channel ps = refl
places_end Mask ps = refl

pub start : (file : List ℕ) (owner : Owner) (at : ℕ) (props : Props) → at < 2 ^ 63 → props ≡ props_of owner (up_to [] at)
    → Front file owner at 0 props
start file owner at props small e =
    let end_is : props.places.end ≡ at = ap (λ (q : Props). q.places.end) e ∙ places_end owner (up_to [] at) in
    let none_kept : length props.kept ≡ 0 = ap (λ (q : Props). length q.kept) e in
    record {
      list = [];
      is = e ∙ ap (λ k. props_of owner (up_to [] k)) (sym end_is);
      checked = tt;
      few = omega (arith, none_kept);
      place = omega (arith, end_is);
      rest = λ room all.
          let full : room ≡ 1024 = omega arith in
          let spare : 256 - length props.kept ≡ 256 = omega (arith, none_kept) in
          behind_none (list_at room (256 - length props.kept) file owner props.places.end)
          ∙ (λ i. list_at (full i) (spare i) file owner (end_is i));
    }

longer_few : {A : Type 0} (owner : Owner) (value : Property → A) (p : Property) (xs : List A) → length xs ≤ 256
    → (interprets owner p.kind || nat_lt 0 (256 - length xs)) ≡ true
    → (length (longer owner value p xs) ≤ 256)
    × (256 - length (longer owner value p xs) ≡ kept_after owner p.kind (256 - length xs))
longer_few owner value p xs few room = by (interprets owner p.kind) room
  where
    by : (b : Bool) → (b || nat_lt 0 (256 - length xs)) ≡ true
        → (length (cond b xs (xs ++ value p ∷ [])) ≤ 256)
        × (256 - length (cond b xs (xs ++ value p ∷ [])) ≡ cond b (256 - length xs) (256 - length xs - 1))
    by true e = (few, refl)
    by false e =
        let some : 0 < 256 - length xs = ltb-true 0 (256 - length xs) e in
        (omega (arith, some, length-append xs (value p ∷ [])), omega (arith, some, length-append xs (value p ∷ [])))

-- one property more
step_of : (file : List ℕ) (owner : Owner) (at i kind : ℕ) (payload : List ℕ) (props after : Props) → Front file owner at i props
    → i < 1024
    → ((room : ℕ) → list_at (suc room) (256 - length props.kept) file owner props.places.end
    ≡ with_first (property props.places.end kind payload)
    (list_at room (kept_after owner kind (256 - length props.kept)) file owner (props.places.end + 8 + length payload)))
    → (interprets owner kind || nat_lt 0 (256 - length props.kept)) ≡ true
    → props.places.end + 8 + length payload < 2 ^ 63
    → IsChecked owner (property 0 kind payload)
    → after ≡ props_after owner (property props.places.end kind payload) props
    → Front file owner at (i + 1) after
step_of file owner at i kind payload props after front more goes_on room fits checked e =
    let end = props.places.end in
    let p = property end kind payload in
    let is_checked : IsChecked owner p =
    record {
      kind = checked.kind;
      not_end = checked.not_end;
      bytes = checked.bytes;
      short = checked.short;
      colours =
          checked.colours;
      rules = checked.rules;
    } in
    let kept_is : after.kept ≡ longer owner as_kept p props.kept = ap (λ (q : Props). q.kept) e in
    let end_is : after.places.end ≡ end_after p = ap (λ (q : Props). q.places.end) e in
    let few = longer_few owner as_kept p props.kept front.few room in
    record {
      list = front.list ++ p ∷ [];
      is = e ∙ (ap (props_after owner p) front.is
          ∙ (props_more owner front.list p ∙ ap (λ k. props_of owner (up_to (front.list ++ p ∷ []) k)) (sym end_is)));
      checked = all_append (IsChecked owner) front.list (p ∷ []) front.checked (is_checked, tt);
      few = omega (arith, few.0, ap length kept_is);
      place = omega (arith, end_is, fits);
      rest = λ rest all.
          let spare : 256 - length after.kept ≡ kept_after owner kind (256 - length props.kept) = ap (λ ks. 256 - length ks) kept_is
          ∙ few.1 in
          behind_one front.list p (list_at rest (256 - length after.kept) file owner after.places.end)
          ∙ ((λ j. behind front.list (with_first p (list_at rest (spare j) file owner (end_is j))))
          ∙ (ap (behind front.list) (sym (goes_on rest)) ∙ front.rest (suc rest) (omega arith)));
    }

pub step : (file : List ℕ) (owner : Owner) (at i k kind : ℕ) (payload : List ℕ) (props after : Props) → Front file owner at i props
    → i < 1024 → k ≡ length props.kept
    → ((room : ℕ) → list_at (suc room) (256 - k) file owner props.places.end
    ≡ with_first (property props.places.end kind payload)
    (list_at room (kept_after owner kind (256 - k)) file owner (props.places.end + 8 + length payload)))
    → (interprets owner kind || nat_lt 0 (256 - k)) ≡ true
    → props.places.end + 8 + length payload < 2 ^ 63
    → IsChecked owner (property 0 kind payload)
    → after ≡ props_after owner (property props.places.end kind payload) props
    → Front file owner at (i + 1) after
step file owner at i k kind payload props after front more same goes_on room fits checked e =
    let end = props.places.end in
    let P : ℕ → Type 0 = λ n. (rest : ℕ) → list_at (suc rest) (256 - n) file owner end
    ≡ with_first (property end kind payload)
    (list_at rest (kept_after owner kind (256 - n)) file owner (end + 8 + length payload)) in
    let Q : ℕ → Type 0 = λ n. (interprets owner kind || nat_lt 0 (256 - n)) ≡ true in
    step_of file owner at i kind payload props after front more (subst P same goes_on) (subst Q same room) fits checked e

-- the whole list is what was read and what is read behind it
whole : (file : List ℕ) (owner : Owner) (at i room k : ℕ) (props : Props) (front : Front file owner at i props) → i + room ≡ 1024
    → k ≡ length props.kept
    → properties_at file owner at ≡ behind front.list (list_at room (256 - k) file owner props.places.end)
whole file owner at i room k props front all same =
    sym (ap (λ n. behind front.list (list_at room (256 - n) file owner props.places.end)) same ∙ front.rest room all)

-- nothing more: the list is what was read
pub ended : (file : List ℕ) (owner : Owner) (at i room k : ℕ) (props : Props) → Front file owner at i props → i + room ≡ 1024
    → k ≡ length props.kept
    → list_at room (256 - k) file owner props.places.end ≡ Ok (record { list = []; end = props.places.end })
    → props_read file owner at ≡ Ok props
ended file owner at i room k props front all same e =
    let read : properties_at file owner at ≡ Ok (up_to front.list props.places.end) =
    whole file owner at i room k props front all same
    ∙ (ap (behind front.list) e ∙ ap (λ ps. Ok (up_to ps props.places.end)) (append-nil front.list)) in
    onward (properties_at file owner at) (up_to front.list props.places.end) (λ ps. Ok (props_of owner ps)) read
    ∙ ap Ok (sym front.is)

-- the first fault behind what was read is the first of the list
pub faulty : (file : List ℕ) (owner : Owner) (at i room k : ℕ) (props : Props) (refused : ReadRefused) → Front file owner at i props
    → i + room ≡ 1024 → k ≡ length props.kept
    → list_at room (256 - k) file owner props.places.end ≡ Err refused
    → props_read file owner at ≡ Err refused
faulty file owner at i room k props refused front all same e =
    ap (λ (r : Read Properties). r >>= (λ ps. Ok (props_of owner ps))) (whole file owner at i room k props front all same
    ∙ ap (behind front.list) e)

pub known_is : (file : List ℕ) (owner : Owner) (at i : ℕ) (props : Props) → Front file owner at i props → IsKnown owner props.known
known_is file owner at i props front =
    subst (IsKnown owner) (sym (ap (λ (q : Props). q.known) front.is)) (known_in_range owner front.list front.checked)

pub kept_are : (file : List ℕ) (owner : Owner) (at i : ℕ) (props : Props) → Front file owner at i props → AreKept owner props.kept
kept_are file owner at i props front = record {
  few = front.few;
  each =
      subst (AllByRecursion (IsKept owner)) (sym (ap (λ (q : Props). q.kept) front.is)) (each_kept owner front.list front.checked);
}

halted : {A B : Type 0} (read : Read A) (refused : ReadRefused) (rest : A → Read B) → read ≡ Err refused
    → (read >>= rest) ≡ Err refused
halted read refused rest h = ap (λ r. r >>= rest) h

-- where there is no word, there is no list
pub no_word : (file : List ℕ) (owner : Owner) (at room kept : ℕ) (refused : ReadRefused) → word_at file at ≡ Err refused
    → list_at (suc room) kept file owner at ≡ Err refused
unfolding list_at
no_word file owner at room kept refused e = halted (word_at file at) refused _ e

pub no_list : (file : List ℕ) (owner : Owner) (at : ℕ) (refused : ReadRefused) → word_at file at ≡ Err refused
    → props_read file owner at ≡ Err refused
no_list file owner at refused e =
    ap (λ (r : Read Properties). r >>= (λ ps. Ok (props_of owner ps))) (no_word file owner at 1023 256 refused e)
