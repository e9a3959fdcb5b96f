-- How far the edits of a group are checked.
use Rattle.std.proofs.Common.{◌≡◌, ℕ, suc, ◌+◌, ◌<◌, ◌≤◌, Bool, true, false, cond, List}
use Rattle.std.proofs.Common.{length, drop, get_or, refl, sym, ◌∙◌, ap, subst, add-one}
use Rattle.std.specs.Prelude.{Some, None}
use Rattle.std.specs.List.{AllByRecursion}
use Rattle.std.proofs.lemmas.List.{drop_all}
use Rattle.spec_edit.specs.Edit as edits
use Rattle.spec_edit.specs.Edit.{IsEdit}
use Rattle.xl_calls.specs.declared.edit.Edit.{Edit}
use Rattle.xl_calls.specs.Edits.{edit_of, edits_of}
use Rattle.xcf.specs.Plain.{is_plain, unplain_from, first_unplain}
use Rattle.xl_standing.proofs.AskedSoFar.{front}

-- the edits before are plain and within the limits of their types, so that those that are left decide
pub record IsSeen (edits : List Edit) (index : ℕ) : Type 0 where
  pub same : unplain_from index (edits_of (drop index edits)) ≡ first_unplain (edits_of edits)
  pub within : AllByRecursion IsEdit (edits_of (drop index edits)) → AllByRecursion IsEdit (edits_of edits)

pub begins : (edits : List Edit) → IsSeen edits 0
begins edits = record { same = refl; within = λ all. all }

-- the first of what is left decides, and is not plain or goes by
first_decides : (edits : List Edit) (index : ℕ) (e : Edit) (b : Bool) → IsSeen edits index → index < length edits
    → e ≡ get_or edits index e → is_plain (edit_of e) ≡ b
    → cond b (unplain_from (suc index) (edits_of (drop (index + 1) edits))) (Some index) ≡ first_unplain (edits_of edits)
first_decides edits index e b seen inside is plain =
    let left = edits_of (drop (index + 1) edits) in
    ap (λ c. cond c (unplain_from (suc index) left) (Some index)) (sym plain)
    ∙ (sym (ap (λ rest. unplain_from index (edits_of rest)) (front edits index e inside is)) ∙ seen.same)

pub goes_by : (edits : List Edit) (index : ℕ) (e : Edit) → IsSeen edits index → index < length edits
    → e ≡ get_or edits index e → is_plain (edit_of e) ≡ true → IsEdit (edit_of e) → IsSeen edits (index + 1)
goes_by edits index e seen inside is plain limits =
    let left = edits_of (drop (index + 1) edits) in
    let P : List Edit → Type 0 = λ rest. AllByRecursion IsEdit (edits_of rest) in
    record {
      same = ap (λ n. unplain_from n left) (add-one index) ∙ first_decides edits index e true seen inside is plain;
      within = λ all. seen.within (subst P (sym (front edits index e inside is)) (limits, all));
    }

pub stops : (edits : List Edit) (index : ℕ) (e : Edit) → IsSeen edits index → index < length edits
    → e ≡ get_or edits index e → is_plain (edit_of e) ≡ false → Some index ≡ first_unplain (edits_of edits)
stops edits index e seen inside is plain = first_decides edits index e false seen inside is plain

pub all_seen : (edits : List Edit) (index : ℕ) → IsSeen edits index → length edits ≤ index
    → None ≡ first_unplain (edits_of edits)
all_seen edits index seen past =
    sym (ap (λ rest. unplain_from index (edits_of rest)) (drop_all index edits past)) ∙ seen.same

pub all_within : (edits : List Edit) (index : ℕ) → IsSeen edits index → length edits ≤ index → AllByRecursion IsEdit (edits_of edits)
all_within edits index seen past =
    seen.within (subst (λ rest. AllByRecursion IsEdit (edits_of rest)) (sym (drop_all index edits past)) tt)
