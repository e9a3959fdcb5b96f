-- Which names a shelf in memory knows after a call.
use Rattle.std.proofs.Common.{◌≡◌, inl, inr, ◌∙◌, ℕ, Bool, true, false, List, Option, Some, None, refl, sym, ap}
use Rattle.std.specs.Prelude.{bytes_eq, if◌then◌else◌, IfSome, IsSome, option_map, Result, Ok, Err}
use Rattle.xl_fakes.specs.Kept.{Standing, MemoryState, is_known, is_known_at, draft_in, KnowsSame, KeepsFiles, IsSwapped, IsSettled}

abbrev name_of : Option Standing → Option (List ℕ)
name_of here = option_map (λ (h : Standing). h.name) here

-- by the name that is selected alone
abbrev known_by : (selected : Option (List ℕ)) → List Standing → (name : List ℕ) → Bool
known_by None files name = is_known files name
known_by (Some selected) files name = if bytes_eq selected name then true else is_known files name

by_name : (here : Option Standing) (files : List Standing) (name : List ℕ) → is_known_at here files name
    ≡ known_by (name_of here) files name
by_name None files name = refl
by_name (Some h) files name = refl

names_stay : (a b : MemoryState) → name_of b.here ≡ name_of a.here → b.files ≡ a.files → KnowsSame a b
names_stay a b names files other =
    by_name b.here b.files other ∙ ((λ i. known_by (names i) (files i) other) ∙ sym (by_name a.here a.files other))

-- after a call that keeps all
pub keeps_names : (a b : MemoryState) → KeepsFiles a b → KnowsSame a b
keeps_names a b keeps other = λ i. is_known_at (keeps.here i) (keeps.files i) other

-- after the draft was to take the name
pub swap_names : {A E : Type 0} (result : Result A E) (a b : MemoryState) → IsSome a.here
    → IfSome a.here (λ h. IsSwapped result h (draft_in a.draft) b.here) → b.files ≡ a.files → KnowsSame a b
swap_names result a b some is files = names_stay a b (by_here a.here refl some is) files
  where
    of_result : {A E : Type 0} (result : Result A E) (h : Standing) → IsSwapped result h (draft_in a.draft) b.here
        → name_of b.here ≡ Some h.name
    of_result (Ok x) h new = ap name_of new
    of_result (Err e) h (inl new) = ap name_of new
    of_result (Err e) h (inr new) = ap name_of new

    by_here : (here : Option Standing) → a.here ≡ here → IsSome here
        → IfSome here (λ h. IsSwapped result h (draft_in a.draft) b.here) → name_of b.here ≡ name_of a.here
    by_here None old some new = let bad : false ≡ true = some in cc
    by_here (Some h) old some new = of_result result h new ∙ sym (ap name_of old)

-- after the name was to be settled
pub settle_names : {A E : Type 0} (result : Result A E) (a b : MemoryState) → IsSome a.here
    → IfSome a.here (λ h. IsSettled result h a.log b.here b.log) → b.files ≡ a.files → KnowsSame a b
settle_names result a b some is files = names_stay a b (by_here a.here refl some is) files
  where
    of_result : {A E : Type 0} (result : Result A E) (h : Standing) → IsSettled result h a.log b.here b.log
        → name_of b.here ≡ Some h.name
    of_result (Ok x) h new = ap name_of new.0
    of_result (Err e) h new = ap name_of new.0

    by_here : (here : Option Standing) → a.here ≡ here → IsSome here
        → IfSome here (λ h. IsSettled result h a.log b.here b.log) → name_of b.here ≡ name_of a.here
    by_here None old some new = let bad : false ≡ true = some in cc
    by_here (Some h) old some new = of_result result h new ∙ sym (ap name_of old)
