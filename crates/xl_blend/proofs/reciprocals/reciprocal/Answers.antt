-- The table is held against its definition at each number, by computing.
use Rattle.std.proofs.Common.{◌≡◌, ℕ, zero, suc, ◌<◌, Bool, true, false, ◌&&◌, nat_eq, get_or, refl, arith, inl, inr}
use Rattle.std.proofs.lemmas.Bool.{cases_eq, eqb-true}
use Rattle.xl_blend.specs.declared.reciprocals.TheConstants.{RECIPROCALS}
use Rattle.xl_blend.specs.Words.{reciprocal_of}
use Rattle.xl_blend.proofs.reciprocals.reciprocal.Goals as goal

-- the two functions agree below n
agree_below : (ℕ → ℕ) → (ℕ → ℕ) → ℕ → Bool
agree_below f g zero = true
agree_below f g (suc n) = nat_eq (f n) (g n) && agree_below f g n

both_of : (x y : Bool) → (x && y) ≡ true → (x ≡ true) × (y ≡ true)
both_of true y h = (refl, h)
both_of false y h = cc

agree_at : (f g : ℕ → ℕ) (n : ℕ) → agree_below f g n ≡ true → (k : ℕ) → k < n → f k ≡ g k
unfolding agree_below
agree_at f g zero h k lt = absurd (omega arith)
agree_at f g (suc n) h k lt =
    let both = both_of (nat_eq (f n) (g n)) (agree_below f g n) h in
    elim (cases_eq k n) [ inl same ↦ rw same (eqb-true (f n) (g n) both.0) | inr other ↦ agree_at f g n both.1 k (omega arith) ]

pub returns : goal.returns
unfolding agree_below
returns c = agree_at (λ k. get_or RECIPROCALS k 0) reciprocal_of 257 refl c.args.of (omega arith)
