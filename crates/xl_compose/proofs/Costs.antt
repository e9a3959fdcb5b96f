-- Sums of steps.
use Rattle.std.proofs.Common.{◌≡◌, ℕ, ◌+◌, ◌-◌, ◌*◌, ◌<◌, ◌≤◌, min, Bool, true, false, ap, ◌∙◌, arith}
use Rattle.std.proofs.lemmas.Nat.{mul-le}
use Rattle.xl_compose.specs.Cost.{visible_with}

-- a row more
pub row_cost : (old so_far new rows w len : ℕ) → so_far ≡ old + rows * w → new ≡ so_far + len → len ≡ w → new ≡ old + (rows + 1) * w
row_cost old so_far new rows w len before more size = omega (arith, before, more, size)

-- a part of a band
pub part_cost : (old new ph pw h w : ℕ) → new ≡ old + ph * pw → ph ≤ h → pw ≤ w → new ≤ old + h * w
part_cost old new ph pw h w is rows columns = omega (arith, is, mul-le ph pw h w rows columns)

pub group_cost : (old mid inner new under inside n m : ℕ) (visible : Bool) → visible ≡ true → m ≡ n → mid ≤ old + under * n
    → inner ≤ mid + inside * n → new ≡ inner + m
    → new ≤ old + (visible_with visible inside + under) * n
group_cost old mid inner new under inside n m true e same below in_it here = omega (arith, same, below, in_it, here)
group_cost old mid inner new under inside n m false e same below in_it here = cc

spread_sum : (count x y w : ℕ) → count * ((x + y) * w) ≡ count * (x * w) + count * (y * w)
spread_sum count x y w = omega arith

spread : (count a x y w : ℕ) → a ≡ x + y → count * (a * w) ≡ count * (x * w) + count * (y * w)
spread count a x y w e = ap (λ k. count * (k * w)) e ∙ spread_sum count x y w

-- a band more
pub band_cost : (old so_far new count w h b n : ℕ) → so_far ≤ old + count * (min (64 * b) h * w) → new ≤ so_far + count * (n * w)
    → n ≡ min 64 (h - 64 * b) → 64 * b < h
    → new ≤ old + count * (min (64 * (b + 1)) h * w)
band_cost old so_far new count w h b n before more is inside =
    let rows : min (64 * (b + 1)) h ≡ min (64 * b) h + n = omega (arith, is, inside) in
    let sum : count * (min (64 * (b + 1)) h * w) ≡ count * (min (64 * b) h * w) + count * (n * w) =
    spread count (min (64 * (b + 1)) h) (min (64 * b) h) n w rows in
    omega (arith, before, more, sum)

-- a piece more
pub piece_cost : (old mid new w x n total : ℕ) → total ≡ w + x → mid ≤ old + w * n → new ≤ mid + x * n → new ≤ old + total * n
piece_cost old mid new w x n total sum before here =
    let all : total * n ≡ w * n + x * n = ap (λ t. t * n) sum ∙ omega arith in omega (arith, before, here, all)
