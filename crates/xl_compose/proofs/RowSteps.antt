-- A row of pixels that is made one after another.
use Rattle.std.proofs.Common.{◌≡◌, ◌≢◌, ℕ, ◌+◌, ◌<◌, List, length, get_or, set, arith, get_or-set_other}
use Rattle.std.proofs.Common.{get_or-set_same, below_more}
use Rattle.spec_document.specs.declared.Pixel.{Pixel}
use Rattle.spec_document.specs.Over.{clear}

-- one pixel more
pub row_step : (row : List Pixel) (i : ℕ) (p : Pixel) (of : ℕ → Pixel) → i < length row
    → ((k : ℕ) → k < i → get_or row k clear ≡ of k) → p ≡ of i
    → (k : ℕ) → k < i + 1 → get_or (set row i p) k clear ≡ of k
row_step row i p of inside before here =
    below_more (λ k. get_or (set row i p) k clear ≡ of k) i
    (λ k h. let other : k ≢ i = omega arith in rw get_or-set_other (before k h))
    (rw get_or-set_same here)
