-- Chests and the lists with which they agree.
use Rattle.std.proofs.Common.{◌≡◌, ℕ, zero, suc, List, [], ◌∷◌, map, refl, sym, ◌∙◌, ap}
use Rattle.std.specs.Prelude.{Option, Some, None, is_some, option_map, slice_set, slice_get}
use Rattle.spec_edit.specs.Effect.{changed_at}
use Rattle.spec_filters.specs.declared.FilterKind.TheVariants.{Invert}
use Rattle.spec_filters.specs.declared.FilterState.{FilterState}
use Rattle.spec_filters.specs.Filters.{after_use}
use Rattle.spec_filters.specs.Slots.{state_at, has_slot}
use Rattle.spec_tables.specs.Agrees.{Agrees, SameSlots}

abbrev Some_list : List (Option FilterState) → Type 0
Some_list chest = (filters : List FilterState) × Agrees chest filters

pub some_list : (chest : List (Option FilterState)) → Some_list chest
some_list [] = ([], tt)
some_list (None ∷ ss) = let rest = some_list ss in (record { kind = Invert; amount = 0; uses = 0 } ∷ rest.0, rest.1)
some_list (Some s ∷ ss) = let rest = some_list ss in (s ∷ rest.0, (refl, rest.1))

-- a filter that is there has the state of the list
pub state_in : (chest : List (Option FilterState)) (filters : List FilterState) (slot : ℕ) (s : FilterState) → Agrees chest filters
    → state_at chest slot ≡ Some s
    → slice_get filters slot ≡ Some s
state_in [] [] slot s a e = cc
state_in [] (f ∷ fs) slot s a e = absurd a
state_in (x ∷ xs) [] slot s a e = absurd a
state_in (None ∷ xs) (f ∷ fs) zero s a e = cc
state_in (None ∷ xs) (f ∷ fs) (suc slot) s a e = state_in xs fs slot s a e
state_in (Some x ∷ xs) (f ∷ fs) zero s a e = ap Some (sym a.0) ∙ e
state_in (Some x ∷ xs) (f ∷ fs) (suc slot) s a e = state_in xs fs slot s a.1 e

-- one use more of a filter
pub used_agrees : (chest : List (Option FilterState)) (filters : List FilterState) (slot : ℕ) → Agrees chest filters
    → Agrees (slice_set chest slot (option_map after_use (state_at chest slot))) (changed_at slot after_use filters)
used_agrees [] [] slot a = tt
used_agrees [] (f ∷ fs) slot a = absurd a
used_agrees (x ∷ xs) [] slot a = absurd a
used_agrees (None ∷ xs) (f ∷ fs) zero a = a
used_agrees (None ∷ xs) (f ∷ fs) (suc slot) a = used_agrees xs fs slot a
used_agrees (Some x ∷ xs) (f ∷ fs) zero a = (ap after_use a.0, a.1)
used_agrees (Some x ∷ xs) (f ∷ fs) (suc slot) a = (a.0, used_agrees xs fs slot a.1)

some_used : (o : Option FilterState) → is_some (option_map after_use o) ≡ is_some o
some_used None = refl
some_used (Some s) = refl

-- it stays in its slot
pub used_slots : (chest : List (Option FilterState)) (slot : ℕ)
    → SameSlots chest (slice_set chest slot (option_map after_use (state_at chest slot)))
used_slots [] slot = refl
used_slots (x ∷ xs) zero = ap (λ b. b ∷ map is_some xs) (some_used x)
used_slots (x ∷ xs) (suc slot) = ap (λ bs. is_some x ∷ bs) (used_slots xs slot)

-- where filters are in the same slots, a slot that was there is there
pub same_there : (old new : List (Option FilterState)) (slot : ℕ) → SameSlots old new → has_slot new slot ≡ has_slot old slot
same_there [] [] slot e = refl
same_there [] (y ∷ ys) slot e = cc
same_there (x ∷ xs) [] slot e = cc
same_there (x ∷ xs) (y ∷ ys) zero e = cc
same_there (x ∷ xs) (y ∷ ys) (suc slot) e = let rest : map is_some ys ≡ map is_some xs = cc in same_there xs ys slot rest

-- two chests that agree with one list and have filters in the same slots are one
pub agree_same : (old new : List (Option FilterState)) (filters : List FilterState) → SameSlots old new → Agrees old filters
    → Agrees new filters → new ≡ old
agree_same [] [] filters e a b = refl
agree_same [] (y ∷ ys) filters e a b = cc
agree_same (x ∷ xs) [] filters e a b = cc
agree_same (x ∷ xs) (y ∷ ys) [] e a b = absurd a
agree_same (None ∷ xs) (None ∷ ys) (f ∷ fs) e a b =
    let rest : map is_some ys ≡ map is_some xs = cc in ap (λ zs. None ∷ zs) (agree_same xs ys fs rest a b)
agree_same (None ∷ xs) (Some y ∷ ys) (f ∷ fs) e a b = cc
agree_same (Some x ∷ xs) (None ∷ ys) (f ∷ fs) e a b = cc
agree_same (Some x ∷ xs) (Some y ∷ ys) (f ∷ fs) e a b =
    let rest : map is_some ys ≡ map is_some xs = cc in λ i. Some ((b.0 ∙ sym a.0) i) ∷ agree_same xs ys fs rest a.1 b.1 i
