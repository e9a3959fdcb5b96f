-- Slices of a list.
use Rattle.std.proofs.Common.{◌≡◌, ℕ, ◌+◌, ◌-◌, ◌≤◌, ◌++◌, List, length, take, drop, sym, ap, ◌∙◌, arith}
use Rattle.std.proofs.lemmas.List.{drop-take, drop-drop, length-take-le, length-drop}
use Rattle.std.proofs.Math.Seq.{take-add}

size_of : (xs : List ℕ) (from len : ℕ) → from + len ≤ length xs → length (take len (drop from xs)) ≡ len
size_of xs from len within = length-take-le len (drop from xs) (omega (arith, length-drop from xs))

-- the first bytes are left out
pub skipped : (xs : List ℕ) (from len n : ℕ) → n ≤ length (take len (drop from xs)) → from + len ≤ length xs
    → take (len - n) (drop (from + n) xs) ≡ drop n (take len (drop from xs))
skipped xs from len n few within =
    let all : n + (len - n) ≡ len = omega (arith, size_of xs from len within, few) in
    ap (take (len - n)) (sym (drop-drop n from xs))
    ∙ (sym (drop-take n (len - n) (drop from xs)) ∙ ap (λ k. drop n (take k (drop from xs))) all)

-- the bytes that stand behind
pub joined : (xs next : List ℕ) (from len end : ℕ) → end ≡ from + len
    → take (end + length next - end) (drop end xs) ≡ next
    → take (len + length next) (drop from xs) ≡ take len (drop from xs) ++ next
joined xs next from len end is same =
    let n : length next ≡ end + length next - end = omega arith in
    take-add len (length next) (drop from xs)
    ∙ ap (λ ys. take len (drop from xs) ++ ys) (ap (take (length next)) (drop-drop len from xs)
    ∙ ((λ i. take (n i) (drop (sym is i) xs)) ∙ same))

-- bytes behind a place are those of a slice that is equal to them
pub behind : (all xs slice next : List ℕ) (n end : ℕ) → all ≡ xs → slice ≡ take n (drop end all) → slice ≡ next
    → take n (drop end xs) ≡ next
behind all xs slice next n end same is equal = ap (λ ys. take n (drop end ys)) (sym same) ∙ (sym is ∙ equal)
