-- Values of the numbers counted so far.
use Rattle.std.proofs.Common.{◌≡◌, ℕ, zero, suc, ◌+◌, [], ◌∷◌, ◌++◌, map, ap, ◌∙◌, arith}
use Rattle.spec_document.specs.Rect.{count_from}

from_more : {X : Type 0} (f : ℕ → X) (first n : ℕ)
    → map f (count_from first (suc n)) ≡ map f (count_from first n) ++ f (first + n) ∷ []
from_more f first zero = let e : first ≡ first + 0 = omega arith in ap (λ k. f k ∷ []) e
from_more f first (suc n) =
    let e : suc first + n ≡ first + suc n = omega arith in
    ap (λ xs. f first ∷ xs) (from_more f (suc first) n ∙ ap (λ k. map f (count_from (suc first) n) ++ f k ∷ []) e)

-- one number more
pub counted_more : {X : Type 0} (f : ℕ → X) (n : ℕ) → map f (count_from 0 (n + 1)) ≡ map f (count_from 0 n) ++ f n ∷ []
counted_more f n =
    let up : n + 1 ≡ suc n = omega arith in
    let e : 0 + n ≡ n = omega arith in
    ap (λ k. map f (count_from 0 k)) up ∙ (from_more f 0 n ∙ ap (λ k. map f (count_from 0 n) ++ f k ∷ []) e)
