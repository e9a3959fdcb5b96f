-- Words taken one after another are a merge just where all are.
use Rattle.std.proofs.Common.{◌≡◌, ℕ, zero, suc, ◌<◌, ◌≤◌, Bool, true, false, List, [], ◌∷◌, length, map, drop, refl, ap, sym, ◌∙◌, arith, get_or, eq-eqb, ne_eqb, ◌==◌}
use Rattle.std.specs.Prelude.{◌&&◌}
use Rattle.std.specs.Str.{bytes_eq}
use Rattle.spec_text.specs.declared.OrderWord.{OrderWord}
use Rattle.xl_printed.specs.Merging.{Merging, take_words, before_all}

-- ---- the loop over the words

pub record AreTaken (saves : List (List Bool)) (order : List OrderWord) (place : ℕ) (m : Merging) : Type 0 where
  pub same : take_words saves m (drop place order) ≡ take_words saves before_all order

-- ---- the numbers of calls

same_from : (xs ys : List ℕ) → length xs ≡ length ys → ((k : ℕ) → k < length xs → get_or xs k 0 ≡ get_or ys k 0) → bytes_eq xs ys ≡ true
same_from [] [] long same = refl
same_from [] (y ∷ ys) long same = absurd (omega (arith, long))
same_from (x ∷ xs) [] long same = absurd (omega (arith, long))
same_from (x ∷ xs) (y ∷ ys) long same =
    let first = eq-eqb x y (same 0 (omega arith)) in
    let rest = same_from xs ys (omega (arith, long)) (λ k lt. same (suc k) (omega (arith, lt))) in
    rw (first, rest) refl

and_false : (b : Bool) → (b && false) ≡ false
and_false true = refl
and_false false = refl

other_at : (xs ys : List ℕ) (k : ℕ) → k < length xs → k < length ys → (get_or xs k 0 ≡ get_or ys k 0 → ⊥) → bytes_eq xs ys ≡ false
other_at [] ys k lt within other = absurd (omega (arith, lt))
other_at (x ∷ xs) [] k lt within other = absurd (omega (arith, within))
other_at (x ∷ xs) (y ∷ ys) zero lt within other = ap (λ (b : Bool). b && bytes_eq xs ys) (ne_eqb x y other)
other_at (x ∷ xs) (y ∷ ys) (suc k) lt within other =
    ap (λ (b : Bool). (x == y) && b) (other_at xs ys k (omega (arith, lt)) (omega (arith, within)) other) ∙ and_false (x == y)

pub record AreCounted (nexts : List ℕ) (saves : List (List Bool)) (session : ℕ) : Type 0 where
  pub same : (k : ℕ) → k < session → get_or nexts k 0 ≡ length (get_or saves k [])

pub lengths_at : (saves : List (List Bool)) (k : ℕ) → k < length saves → get_or (map length saves) k 0 ≡ length (get_or saves k [])
lengths_at [] k lt = absurd (omega (arith, lt))
lengths_at (s ∷ saves) zero lt = refl
lengths_at (s ∷ saves) (suc k) lt = lengths_at saves k (omega (arith, lt))

length_lengths : (saves : List (List Bool)) → length (map length saves) ≡ length saves
length_lengths [] = refl
length_lengths (s ∷ saves) = ap (λ (n : ℕ). suc n) (length_lengths saves)

pub counted_all : (nexts : List ℕ) (saves : List (List Bool)) (session : ℕ) → AreCounted nexts saves session → length nexts ≡ 8 → length saves ≡ 8
    → 8 ≤ session → bytes_eq nexts (map length saves) ≡ true
counted_all nexts saves session counted long eight le =
    let l = length_lengths saves in
    same_from nexts (map length saves) (omega (arith, l, long, eight)) (λ k lt.
    counted.same k (omega (arith, lt, long, le)) ∙ sym (lengths_at saves k (omega (arith, lt, long, eight))))

pub counted_not : (nexts : List ℕ) (saves : List (List Bool)) (session : ℕ) → session < 8 → length nexts ≡ 8 → length saves ≡ 8
    → (get_or nexts session 0 ≡ length (get_or saves session []) → ⊥) → bytes_eq nexts (map length saves) ≡ false
counted_not nexts saves session lt long eight other =
    let l = length_lengths saves in
    other_at nexts (map length saves) session (omega (arith, lt, long)) (omega (arith, lt, l, eight)) (λ e.
    other (e ∙ lengths_at saves session (omega (arith, lt, eight))))
