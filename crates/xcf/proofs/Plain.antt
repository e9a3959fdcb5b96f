-- Plain edits, and groups of them.
use Rattle.std.proofs.Common.{◌≡◌, ℕ, suc, ◌+◌, ◌≤◌, Bool, true, false, cond, List, [], ◌∷◌, inl, inr}
use Rattle.std.proofs.Common.{length, refl, sym, ◌∙◌, ap, arith, true≢false}
use Rattle.std.specs.Prelude.{Option, Some, None, is_some, Result}
use Rattle.std.specs.List.{AllByRecursion}
use Rattle.std.proofs.lemmas.List.{length-map}
use Rattle.spec_edit.specs.Apply.{At, Refused, apply_group}
use Rattle.spec_edit.specs.Edit as edits
use Rattle.spec_edit.specs.Apply.{is_filter}
use Rattle.spec_history.specs.declared.TheConstants.{MAX_EDITS}
use Rattle.spec_tables.specs.Acceptance.{filter_count}
use Rattle.spec_tables.proofs.Asked.{Plain, view}
use Rattle.xl_calls.specs.declared.edit.Edit.{Edit}
use Rattle.xl_calls.specs.Edits.{edit_of, edits_of}
use Rattle.xcf.specs.Plain.{is_plain, unplain_from, IsPlainGroup}

-- a plain edit is no filter
pub plain_view : (e : edits.Edit) → is_plain e ≡ true → Plain e
plain_view e plain = elim (view e) [
  | inl f ↦ absurd (true≢false (sym plain ∙ ap is_plain f.is))
  | inr p ↦ p
]

head_plain : (b : Bool) (place : ℕ) (rest : Option ℕ) → cond b rest (Some place) ≡ None → (b ≡ true) × (rest ≡ None)
head_plain true place rest e = (refl, e)
head_plain false place rest e = absurd (true≢false (ap is_some e))

-- of edits that are all plain the first one is, and those behind it are
pub first_plain : (place : ℕ) (e : edits.Edit) (rest : List edits.Edit) → unplain_from place (e ∷ rest) ≡ None
    → (is_plain e ≡ true) × (unplain_from (suc place) rest ≡ None)
first_plain place e rest none = head_plain (is_plain e) place (unplain_from (suc place) rest) none

-- none of them is a filter
pub no_filters : (place : ℕ) (es : List edits.Edit) → unplain_from place es ≡ None → filter_count es ≡ 0
no_filters place [] none = refl
no_filters place (e ∷ es) none =
    let both = first_plain place e es none in
    let head : cond {A = ℕ} (is_filter e) 1 0 ≡ 0 = ap (λ (b : Bool). cond {A = ℕ} b 1 0) (plain_view e both.0).no_filter in
    let rest : filter_count es ≡ 0 = no_filters (suc place) es both.1 in
    let all : cond {A = ℕ} (is_filter e) 1 0 + filter_count es ≡ 0 = omega (arith, head, rest) in
    all

-- so no table is taken
pub no_tables : (es : List edits.Edit) (tables : List (List ℕ)) → IsPlainGroup es → tables ≡ []
    → length tables ≡ filter_count es
no_tables es tables plain none = ap length none ∙ sym (no_filters 0 es plain.1)

-- and the group comes to what it comes to with none
pub bare : (old : At) (es : List edits.Edit) (tables : List (List ℕ)) (r : Result At Refused) → tables ≡ []
    → apply_group old es tables ≡ r → apply_group old es [] ≡ r
bare old es tables r none came = ap (apply_group old es) (sym none) ∙ came

pub each : (es : List edits.Edit) → IsPlainGroup es → AllByRecursion edits.IsEdit es
each es plain = plain.0.each

pub few : (edits : List Edit) → IsPlainGroup (edits_of edits) → length edits ≤ MAX_EDITS
few edits plain =
    let long = length-map edits edit_of in
    let most = plain.0.few in omega (arith, long, most)
