-- How far the filters of a group are asked.
use Rattle.std.proofs.Common.{◌≡◌, ℕ, ◌+◌, ◌<◌, ◌≤◌, false, cond, List, [], ◌∷◌, ◌++◌, length, take, drop, get_or, sym}
use Rattle.std.proofs.Common.{◌∙◌, ap, subst, arith, length-append}
use Rattle.std.specs.Prelude.{Option, Some, None, is_some, IsTrue, IfSome, slice_set, option_map}
use Rattle.std.specs.List.{AllByRecursion}
use Rattle.std.proofs.lemmas.List.{drop_more, take_more, take-map, map-append, drop_all}
use Rattle.spec_document.specs.Limits.{AreBytes}
use Rattle.spec_document.proofs.Elements.{all-append}
use Rattle.spec_edit.specs.Edit.{slot_of}
use Rattle.spec_edit.specs.Apply.{is_filter}
use Rattle.spec_filters.specs.declared.FilterState.{FilterState}
use Rattle.spec_filters.specs.Filters.{table_of, after_use}
use Rattle.spec_filters.specs.Slots.{state_at, has_slot}
use Rattle.spec_tables.specs.Acceptance.{filter_count}
use Rattle.spec_tables.specs.Agrees.{AreThere, IsUsed, AreAsked, IsPartUsed}
use Rattle.spec_tables.proofs.Asked.{plain_asked, filter_asked, filter_used, filter_with}
use Rattle.spec_tables.proofs.Asked.{first_there, others_there}
use Rattle.spec_tables.proofs.Chests.{same_there}
use Rattle.xl_calls.specs.declared.edit.Edit.{Edit}
use Rattle.xl_calls.specs.Edits.{edit_of, edits_of}

-- the edits that are left begin with the next one
pub front : (edits : List Edit) (index : ℕ) (e : Edit) → index < length edits → e ≡ get_or edits index e
    → drop index edits ≡ e ∷ drop (index + 1) edits
front edits index e inside is = drop_more edits index e inside ∙ ap (λ x. x ∷ drop (index + 1) edits) (sym is)

-- how many tables there are, with those that are still to come
abbrev pub IsCounted : (edits : List Edit) → (index count : ℕ) → Type 0
IsCounted edits index count = count + filter_count (edits_of (drop index edits)) ≡ filter_count (edits_of edits)

-- the filters of the edits before one were asked
pub record IsAsking (old now : List (Option FilterState)) (edits : List Edit) (index : ℕ) (tables : List (List ℕ)) : Type 0 where
  pub asked : AreAsked old now (edits_of (take index edits)) tables
  pub count : IsCounted edits index (length tables)
  pub bytes : AllByRecursion AreBytes tables
  pub there : AreThere old (edits_of (drop index edits))

-- the edits up to the next one
one_more : (edits : List Edit) (index : ℕ) (e : Edit) → index < length edits → e ≡ get_or edits index e
    → edits_of (take index edits) ++ edit_of e ∷ [] ≡ edits_of (take (index + 1) edits)
one_more edits index e inside is =
    sym (ap edits_of (take_more edits index e inside ∙ ap (λ x. take index edits ++ x ∷ []) (sym is))
    ∙ map-append edit_of (take index edits) (e ∷ []))

there_from : (old : List (Option FilterState)) (edits : List Edit) (index : ℕ) (e : Edit) → index < length edits
    → e ≡ get_or edits index e
    → AreThere old (edits_of (drop index edits)) → AreThere old (edit_of e ∷ edits_of (drop (index + 1) edits))
there_from old edits index e inside is h =
    let P : List Edit → Type 0 = λ rest. AreThere old (edits_of rest) in
    subst P (front edits index e inside is) h

-- the next filter is there
pub slot_there : (old now : List (Option FilterState)) (edits : List Edit) (index : ℕ) (tables : List (List ℕ)) (e : Edit)
    (slot : ℕ) → IsAsking old now edits index tables
    → index < length edits → e ≡ get_or edits index e → slot_of (edit_of e) ≡ Some slot → IsTrue (has_slot now slot)
slot_there old now edits index tables e slot way inside is which =
    let f = filter_with (edit_of e) slot which in
    subst IsTrue (sym (same_there old now slot way.asked.used.slots))
    (first_there old f.0 f.1 slot (edit_of e) (edits_of (drop (index + 1) edits)) f.2
    (there_from old edits index e inside is way.there))

pub counted_more : (edits : List Edit) (index count more : ℕ) (e : Edit) → IsCounted edits index count → index < length edits
    → e ≡ get_or edits index e
    → more ≡ cond (is_filter (edit_of e)) 1 0 → IsCounted edits (index + 1) (count + more)
counted_more edits index count more e counted inside is one =
    let next : filter_count (edits_of (drop index edits))
    ≡ cond (is_filter (edit_of e)) 1 0 + filter_count (edits_of (drop (index + 1) edits)) =
    ap (λ rest. filter_count (edits_of rest)) (front edits index e inside is) in
    omega (arith, counted, next, one)

-- the next filter is asked
pub asks_filter : (old now new : List (Option FilterState)) (edits : List Edit) (index : ℕ) (tables : List (List ℕ)) (e : Edit)
    (slot : ℕ) (table : List ℕ)
    → IsAsking old now edits index tables → index < length edits → e ≡ get_or edits index e → slot_of (edit_of e) ≡ Some slot
    → IfSome (state_at now slot) (λ s. table ≡ table_of s) → new ≡ slice_set now slot (option_map after_use (state_at now slot))
    → AreBytes table
    → IsAsking old new edits (index + 1) (tables ++ table ∷ [])
asks_filter old now new edits index tables e slot table way inside is which answer put bytes =
    let f = filter_with (edit_of e) slot which in
    let there = slot_there old now edits index tables e slot way inside is which in
    let one : 1 ≡ cond (is_filter (edit_of e)) 1 0 = ap (λ x. cond (is_filter x) 1 0) (sym f.2) in
    let longer : length (tables ++ table ∷ []) ≡ length tables + 1 = length-append tables (table ∷ []) in
    record {
      asked = subst (λ es. AreAsked old new es (tables ++ table ∷ [])) (one_more edits index e inside is)
          (filter_asked old now new (edits_of (take index edits)) tables
          (edit_of e) f.0 f.1 slot table way.asked f.2 there answer put);
      count =
          subst (IsCounted edits (index + 1)) (sym longer) (counted_more edits index (length tables) 1 e way.count inside is one);
      bytes = all-append AreBytes tables (table ∷ []) way.bytes (bytes, tt);
      there = others_there old (edit_of e) (edits_of (drop (index + 1) edits)) (there_from old edits index e inside is way.there);
    }

-- an edit that is no filter
pub asks_none : (old now : List (Option FilterState)) (edits : List Edit) (index : ℕ) (tables : List (List ℕ)) (e : Edit)
    → IsAsking old now edits index tables → index < length edits → e ≡ get_or edits index e → slot_of (edit_of e) ≡ None
    → IsAsking old now edits (index + 1) tables
asks_none old now edits index tables e way inside is which =
    let plain : is_filter (edit_of e) ≡ false = ap is_some which in
    let none : 0 ≡ cond (is_filter (edit_of e)) 1 0 = ap (λ b. cond b 1 0) (sym plain) in
    let same : length tables + 0 ≡ length tables = omega arith in
    record {
      asked = subst (λ es. AreAsked old now es tables) (one_more edits index e inside is)
          (plain_asked old now (edits_of (take index edits)) tables (edit_of e) way.asked plain);
      count = subst (IsCounted edits (index + 1)) same (counted_more edits index (length tables) 0 e way.count inside is none);
      bytes = way.bytes;
      there = others_there old (edit_of e) (edits_of (drop (index + 1) edits)) (there_from old edits index e inside is way.there);
    }

-- where memory runs out behind the next filter
pub asked_part : (old now new : List (Option FilterState)) (edits : List Edit) (index : ℕ) (tables : List (List ℕ)) (e : Edit)
    (slot : ℕ)
    → IsAsking old now edits index tables → index < length edits → e ≡ get_or edits index e → slot_of (edit_of e) ≡ Some slot
    → new ≡ slice_set now slot (option_map after_use (state_at now slot)) → IsPartUsed old new (edits_of edits)
asked_part old now new edits index tables e slot way inside is which put =
    let f = filter_with (edit_of e) slot which in (
      index + 1,
      subst (IsUsed old new) (one_more edits index e inside is ∙ sym (take-map edit_of (index + 1) edits))
          (filter_used old now new (edits_of (take index edits)) (edit_of e) f.0 f.1 slot way.asked.used f.2 put),
    )

pub all_counted : (edits : List Edit) (index count : ℕ) → IsCounted edits index count → length edits ≤ index
    → count ≡ filter_count (edits_of edits)
all_counted edits index count counted past =
    let none : filter_count (edits_of (drop index edits)) ≡ 0 =
    ap (λ rest. filter_count (edits_of rest)) (drop_all index edits past) in
    omega (arith, counted, none)
