-- What holds of all holds of each.
use Rattle.std.proofs.Common.{◌≡◌, ℕ, zero, suc, ◌<◌, List, [], ◌∷◌, length, sym, subst, arith}
use Rattle.std.specs.Prelude.{slice_index_or}
use Rattle.std.specs.List.{AllByRecursion}

module _ {X : Type 0} where
  each_at : (P : X → Type 0) (xs : List X) → AllByRecursion P xs → (i : ℕ) (d : X) → i < length xs → P (slice_index_or xs i d)
  each_at P [] all i d lt = absurd (omega (arith, lt))
  each_at P (x ∷ xs) all zero d lt = all.0
  each_at P (x ∷ xs) all (suc i) d lt = each_at P xs all.1 i d (omega (arith, lt))

  -- of the one that is read at a place
  pub each_read : (P : X → Type 0) (xs : List X) → AllByRecursion P xs → (i : ℕ) (x : X) → i < length xs → x ≡ slice_index_or xs i x
      → P x
  each_read P xs all i x lt is = subst P (sym is) (each_at P xs all i x lt)
