-- The red and the alpha of each pixel, one pixel after another.
use Rattle.std.proofs.Common.{◌≡◌, ℕ, zero, suc, ◌+◌, ◌*◌, ◌/◌, ◌<◌, ◌≤◌, List, [], ◌∷◌, ◌++◌, length, drop, slice_index, refl, sym, ◌∙◌, ap, arith}
use Rattle.std.proofs.Common.{append_assoc, append-nil, length-drop}
use Rattle.spec_document.specs.Greys.{red_and_alpha}

-- the next pixel
pub next_pixel : (xs : List ℕ) (i : ℕ) → i + 4 ≤ length xs
    → red_and_alpha (drop i xs) ≡ slice_index xs i ∷ slice_index xs (i + 3) ∷ red_and_alpha (drop (i + 4) xs)
next_pixel [] i h = absurd (omega (arith, h))
next_pixel (r ∷ []) zero h = absurd (omega (arith, h))
next_pixel (r ∷ g ∷ []) zero h = absurd (omega (arith, h))
next_pixel (r ∷ g ∷ b ∷ []) zero h = absurd (omega (arith, h))
next_pixel (r ∷ g ∷ b ∷ a ∷ xs) zero h = refl
next_pixel (x ∷ xs) (suc i) h =
    let one : suc (i + 3) ≡ suc i + 3 = omega arith in
    let all : suc (i + 4) ≡ suc i + 4 = omega arith in
    next_pixel xs i (omega (arith, h))
    ∙ (λ k. slice_index xs i ∷ slice_index (x ∷ xs) (one k) ∷ red_and_alpha (drop (all k) (x ∷ xs)))

-- fewer than four bytes are no pixel
pub no_pixel : (xs : List ℕ) → length xs < 4 → red_and_alpha xs ≡ []
no_pixel [] h = refl
no_pixel (r ∷ []) h = refl
no_pixel (r ∷ g ∷ []) h = refl
no_pixel (r ∷ g ∷ b ∷ []) h = refl
no_pixel (r ∷ g ∷ b ∷ a ∷ xs) h = absurd (omega (arith, h))

-- ---- the loop over the pixels

pub one_more : (xs out : List ℕ) (i : ℕ) → i < length xs / 4 → red_and_alpha xs ≡ out ++ red_and_alpha (drop (4 * i) xs)
    → red_and_alpha xs
    ≡ ((out ++ slice_index xs (4 * i) ∷ []) ++ slice_index xs (4 * i + 3) ∷ []) ++ red_and_alpha (drop (4 * (i + 1)) xs)
one_more xs out i within so =
    let inside : 4 * i + 4 ≤ length xs = omega (arith, within) in
    let next : 4 * i + 4 ≡ 4 * (i + 1) = omega arith in
    let rest = red_and_alpha (drop (4 * (i + 1)) xs) in
    so
    ∙ (ap (λ ys. out ++ ys) (next_pixel xs (4 * i) inside
    ∙ ap (λ n. slice_index xs (4 * i) ∷ slice_index xs (4 * i + 3) ∷ red_and_alpha (drop n xs)) next)
    ∙ sym (append_assoc (out ++ slice_index xs (4 * i) ∷ []) (slice_index xs (4 * i + 3) ∷ []) rest
    ∙ append_assoc out (slice_index xs (4 * i) ∷ []) (slice_index xs (4 * i + 3) ∷ rest)))

pub all_read : (xs out : List ℕ) (i : ℕ) → length xs / 4 ≤ i → red_and_alpha xs ≡ out ++ red_and_alpha (drop (4 * i) xs)
    → red_and_alpha xs ≡ out
all_read xs out i past so =
    let left : length (drop (4 * i) xs) < 4 = omega (arith, past, length-drop (4 * i) xs) in
    so ∙ (ap (λ ys. out ++ ys) (no_pixel (drop (4 * i) xs) left) ∙ append-nil out)
