-- What it means for a group of edits that none of them is refused, and which filters were asked then.
use Rattle.std.proofs.Common.{◌≡◌, ℕ, Bool, true, cond, List, [], ◌∷◌, length, take, refl, sym, ◌∙◌, ap, subst, arith, take_all}
use Rattle.std.specs.Prelude.{Option, Some, None, Result, Ok, Err, OnErr, is_ok, ◌&&◌}
use Rattle.spec_edit.specs.Edit.{Edit}
use Rattle.spec_edit.specs.Apply as apply
use Rattle.spec_edit.specs.Apply.{At, apply_group}
use Rattle.spec_tables.specs.Acceptance.{refused_in}
use Rattle.spec_tables.proofs.Accepted.{same_refused}
use Rattle.spec_filters.specs.declared.FilterState.{FilterState}
use Rattle.spec_tables.specs.Agrees.{IsUsed, AreAsked, IsPartUsed}
use Rattle.spec_tables.proofs.Asked.{unused}
use Rattle.spec_standing.specs.Group.{is_allowed}

-- what is refused with some tables is refused with any
pub refused_same : (old : At) (edits : List Edit) (tables others : List (List ℕ)) (r : apply.Refused)
    → apply_group old edits tables ≡ Err r → apply_group old edits others ≡ Err r
refused_same old edits tables others r e =
    is_refused (apply_group old edits others) r (sym (same_refused 0 old old edits tables others refl refl) ∙ ap refused_in e) where
      is_refused : (a : Result At apply.Refused) (r : apply.Refused) → refused_in a ≡ Some r → a ≡ Err r
      is_refused (Ok new) r h = cc
      is_refused (Err q) r h = let same : q ≡ r = cc in ap Err same

-- what is accepted with some tables is accepted with any
pub accepted_same : (old new : At) (edits : List Edit) (tables others : List (List ℕ)) → apply_group old edits tables ≡ Ok new
    → refused_in (apply_group old edits others) ≡ None
accepted_same old new edits tables others e = sym (same_refused 0 old old edits tables others refl refl) ∙ ap refused_in e

-- and so it is not refused
pub not_refused : (a : Result At apply.Refused) (r : apply.Refused) → refused_in a ≡ None → a ≡ Err r → ⊥
not_refused a r allowed e = let wrong : Some r ≡ None = ap refused_in (sym e) ∙ allowed in cc

-- then it is allowed
pub allowed_where : (old : At) (edits : List Edit) → refused_in (apply_group old edits []) ≡ None → is_allowed old edits ≡ true
allowed_where old edits none = go (apply_group old edits []) none
  where
    go : (a : Result At apply.Refused) → refused_in a ≡ None → is_ok a ≡ true
    go (Ok new) h = refl
    go (Err r) h = cc

pub allowed_made : (old new : At) (edits : List Edit) (tables : List (List ℕ)) → apply_group old edits tables ≡ Ok new
    → is_allowed old edits ≡ true
allowed_made old new edits tables e = allowed_where old edits (accepted_same old new edits tables [] e)

pub no_tables : (tables : List (List ℕ)) → length tables ≡ 0 → tables ≡ []
no_tables [] e = refl
no_tables (t ∷ ts) e = cc

-- the first filters of a group that is allowed were asked
pub part_allowed : (b : Bool) (chest after : List (Option FilterState)) (edits : List Edit) → b ≡ true
    → IsPartUsed chest after edits → IsPartUsed chest after (cond b edits [])
part_allowed b chest after edits is part = subst (λ x. IsPartUsed chest after (cond x edits [])) (sym is) part

-- and its guard has not moved
pub part_named : (named allowed : Bool) (chest after : List (Option FilterState)) (edits : List Edit) → named ≡ true
    → IsPartUsed chest after (cond allowed edits []) → IsPartUsed chest after (cond (named && allowed) edits [])
part_named named allowed chest after edits is part =
    subst (λ b. IsPartUsed chest after (cond (b && allowed) edits [])) (sym is) part

-- all of the filters were asked
pub all_part : (chest after : List (Option FilterState)) (edits : List Edit) (tables : List (List ℕ))
    → AreAsked chest after edits tables → IsPartUsed chest after edits
all_part chest after edits tables asked =
    (length edits, subst (IsUsed chest after) (sym (take_all (length edits) edits (omega arith))) asked.used)

-- none of the filters was asked
pub none_part : (chest : List (Option FilterState)) (edits : List Edit) → IsPartUsed chest chest edits
none_part chest edits = (0, subst (IsUsed chest chest) (sym (take_none edits)) (unused chest)) where
  take_none : (edits : List Edit) → take 0 edits ≡ []
  take_none [] = refl
  take_none (e ∷ es) = refl

-- an error, whatever it is
pub on_err : {A E : Type 0} (P : Type 0) (r : Result A E) → P → OnErr r P
on_err P (Ok x) p = tt
on_err P (Err e) p = p
