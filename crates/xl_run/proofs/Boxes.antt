-- The boxes of the sessions, and a chest that has all of them.
use Rattle.std.proofs.Common.{◌≡◌, ℕ, zero, suc, List, [], ◌∷◌, length, map, drop, Some, refl}
use Rattle.std.proofs.Common.{ap, arith}
use Rattle.std.specs.Prelude.{slice_get, unwrap_or, Vec}
use Rattle.std.specs.declared.alloc.Global.{Global}
use Rattle.std.proofs.lemmas.List.{length-map}
use Rattle.spec_filters.specs.declared.FilterState.{FilterState}
use Rattle.spec_tables.specs.Agrees.{Agrees}
use Rattle.xl_filters.specs.Chests.{states_of}
use Rattle.spec_script.specs.Script.{list_at}
use Rattle.xl_run.specs.Filters.{boxes_at}
use Rattle.xl_run.specs.Filters.{HasAll}

-- ---- a full chest

pub full_agrees : (filters : List FilterState) → Agrees (map (λ s. Some s) filters) filters
full_agrees [] = tt
full_agrees (s ∷ filters) = (refl, full_agrees filters)

pub full_has_all : (filters : List FilterState) → HasAll (map (λ s. Some s) filters)
full_has_all [] slot below = absurd (omega arith)
full_has_all (s ∷ filters) zero below = refl
full_has_all (s ∷ filters) (suc slot) below = full_has_all filters slot (omega arith)

pub full_states : {B : Type 0} (state : B → FilterState) (boxes : List B)
    → map (λ b. Some (state b)) boxes ≡ map (λ s. Some s) (map state boxes)
full_states state [] = refl
full_states state (b ∷ boxes) = ap (λ slots. Some (state b) ∷ slots) (full_states state boxes)

-- ---- by the sessions

pub first_left : {B : Type 0} (boxes : List (Vec B Global)) (n : ℕ) → boxes_at (drop n boxes) 0 ≡ boxes_at boxes n
first_left boxes zero = refl
first_left [] (suc n) = refl
first_left (b ∷ boxes) (suc n) = first_left boxes n

module _ {B : Type 0} (state : B → FilterState) where
  pub states_at : (boxes : List (Vec B Global)) (n : ℕ) → list_at (states_of state boxes) n ≡ map state (boxes_at boxes n)
  states_at [] n = refl
  states_at (b ∷ boxes) zero = refl
  states_at (b ∷ boxes) (suc n) = states_at boxes n

  pub count_at : (boxes : List (Vec B Global)) (n : ℕ)
      → unwrap_or (slice_get (map length (states_of state boxes)) n) 0 ≡ length (boxes_at boxes n)
  count_at [] n = refl
  count_at (b ∷ boxes) zero = length-map b.items state
  count_at (b ∷ boxes) (suc n) = count_at boxes n
