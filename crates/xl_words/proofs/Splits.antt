-- Splitting at the first separator.
use Rattle.std.proofs.Common.{◌≡◌, ℕ, suc, ◌+◌, ◌<◌, ◌≤◌, Bool, true, false, cond, List, [], ◌∷◌, length, take, drop}
use Rattle.std.proofs.Common.{refl, ap, arith, nat_lt}
use Rattle.std.specs.Prelude.{Option, Some, None, MatchOption, not, ◌==◌, if◌then◌else◌}
use Rattle.std.specs.List.{position, position_or_len}
use Rattle.std.proofs.lemmas.Bool.{ltb-false, ltb-true}
use Rattle.spec_script.specs.Words.{with_first, split_at, without_last_empty, lines_of, words_of, none, one, two, six, eight}
use Rattle.xl_words.specs.Words.{next}

-- what position says of the number of bytes before the separator
position_is : (p n : ℕ) (r : Option ℕ) → r ≡ cond (nat_lt p n) (Some p) None → MatchOption r (n ≤ p) (λ i. (i ≡ p) × (p < n))
position_is p n r e = by (nat_lt p n) refl r e
  where
    by : (b : Bool) → nat_lt p n ≡ b → (r : Option ℕ) → r ≡ cond b (Some p) None → MatchOption r (n ≤ p) (λ i. (i ≡ p) × (p < n))
    by true t None e = cc
    by true t (Some i) e = let same : i ≡ p = cc in (same, ltb-true p n t)
    by false t None e = ltb-false p n t
    by false t (Some i) e = cc

none_step : (b : Bool) (n m x : ℕ) (xs : List ℕ) (rest : List (List ℕ)) → suc m ≤ cond (not b) (1 + n) 0
    → (m ≤ n → rest ≡ xs ∷ []) → (if b then [] ∷ rest else with_first x rest) ≡ (x ∷ xs) ∷ []
none_step true n m x xs rest h ih = absurd (omega arith)
none_step false n m x xs rest h ih = rw (ih (omega arith)) refl

-- no separator, one piece
pub split_none : (s : ℕ) (xs : List ℕ) → length xs ≤ position_or_len (λ b. b == s) xs → split_at s xs ≡ xs ∷ []
split_none s [] h = refl
split_none s (x ∷ xs) h =
    none_step (x == s) (position_or_len (λ b. b == s) xs) (length xs) x xs (split_at s xs) h (split_none s xs)

some_step : (s : ℕ) (b : Bool) (n m x : ℕ) (xs : List ℕ) (rest : List (List ℕ)) → rest ≡ split_at s xs
    → cond (not b) (1 + n) 0 < suc m
    → (n < m → rest ≡ take n xs ∷ split_at s (drop (n + 1) xs))
    → (if b then [] ∷ rest else with_first x rest)
    ≡ take (cond (not b) (1 + n) 0) (x ∷ xs) ∷ split_at s (drop (cond (not b) (1 + n) 0 + 1) (x ∷ xs))
some_step s true n m x xs rest same h ih = ap (λ (zs : List (List ℕ)). [] ∷ zs) same
some_step s false n m x xs rest same h ih =
    let one : 1 + n ≡ suc n = omega arith in
    let two : suc n + 1 ≡ suc (n + 1) = omega arith in
    rw (one, two, ih (omega arith)) refl

-- the first piece ends at the first separator
pub split_some : (s : ℕ) (xs : List ℕ) → position_or_len (λ b. b == s) xs < length xs
    → split_at s xs ≡ take (position_or_len (λ b. b == s) xs) xs ∷ split_at s (drop (position_or_len (λ b. b == s) xs + 1) xs)
split_some s [] h = absurd (omega arith)
split_some s (x ∷ xs) h =
    some_step s (x == s) (position_or_len (λ b. b == s) xs) (length xs) x xs (split_at s xs) refl h (split_some s xs)

pub split_by : (s : ℕ) (xs : List ℕ) (r : Option ℕ) → r ≡ position (λ b. b == s) xs
    → MatchOption r (split_at s xs ≡ xs ∷ []) (λ i. split_at s xs ≡ take i xs ∷ split_at s (drop (i + 1) xs))
split_by s xs None e = split_none s xs (position_is (position_or_len (λ b. b == s) xs) (length xs) None e)
split_by s xs (Some i) e =
    let is = position_is (position_or_len (λ b. b == s) xs) (length xs) (Some i) e in
    rw is.0 (split_some s xs is.1)

some_first : (b : Bool) (x : ℕ) (rest : List (List ℕ)) → 0 < length (if b then [] ∷ rest else with_first x rest)
some_first true x rest = omega arith
some_first false x [] = omega arith
some_first false x (piece ∷ pieces) = omega arith

-- there is a piece
pub split_has : (s : ℕ) (xs : List ℕ) → 0 < length (split_at s xs)
split_has s [] = omega arith
split_has s (x ∷ xs) = some_first (x == s) x (split_at s xs)

keeps_first : (piece : List ℕ) (pieces : List (List ℕ)) → 0 < length pieces
    → without_last_empty (piece ∷ pieces) ≡ piece ∷ without_last_empty pieces
keeps_first piece [] h = absurd (omega arith)
keeps_first [] (next ∷ pieces) h = refl
keeps_first (b ∷ bytes) (next ∷ pieces) h = refl

-- a line, and the lines behind it
pub line_and_rest : (text line after : List ℕ) → split_at 10 text ≡ line ∷ split_at 10 after → lines_of text ≡ line ∷ lines_of after
line_and_rest text line after e = rw e (keeps_first line (split_at 10 after) (split_has 10 after))

-- the word and what is left, joined again
joined : Option (List ℕ × List (List ℕ)) → List (List ℕ)
joined None = []
joined (Some taken) = taken.0 ∷ taken.1

pub front_of : (words after : List (List ℕ)) (b : List ℕ) → next words ≡ Some (b, after) → words ≡ b ∷ after
unfolding joined
front_of [] after b e = cc
front_of (x ∷ xs) after b e = ap joined e

two_longer : (words after : List (List ℕ)) (a b : List ℕ) → 0 < length after → words ≡ a ∷ b ∷ after → two words ≡ None
two_longer words [] a b h e = absurd (omega arith)
two_longer words (z ∷ zs) a b h e = rw e refl

-- two words and more are not two
pub not_two : (words between : List (List ℕ)) (a b rest : List ℕ) → next words ≡ Some (a, between)
    → next between ≡ Some (b, words_of rest) → two words ≡ None
not_two words between a b rest e f =
    let is = front_of between (words_of rest) b f in
    let all = front_of words between a e in
    two_longer words (words_of rest) a b (split_has 32 rest) (rw is at all)

pub not_none : (words : List (List ℕ)) → 0 < length words → none words ≡ false
not_none [] h = absurd (omega arith)
not_none (word ∷ words) h = refl

one_longer : (words after : List (List ℕ)) (a : List ℕ) → 0 < length after → words ≡ a ∷ after → one words ≡ None
one_longer words [] a h e = absurd (omega arith)
one_longer words (z ∷ zs) a h e = rw e refl

-- one word and more are not one
pub not_one : (words : List (List ℕ)) (a rest : List ℕ) → next words ≡ Some (a, words_of rest) → one words ≡ None
not_one words a rest e = one_longer words (words_of rest) a (split_has 32 rest) (front_of words (words_of rest) a e)

six_back : (words : List (List ℕ)) (a b c d e f : List ℕ) → six words ≡ Some (a, b, c, d, e, f) → words ≡ a ∷ b ∷ c ∷ d ∷ e ∷ f ∷ []
six_back [] a b c d e f h = cc
six_back (a' ∷ []) a b c d e f h = cc
six_back (a' ∷ b' ∷ []) a b c d e f h = cc
six_back (a' ∷ b' ∷ c' ∷ []) a b c d e f h = cc
six_back (a' ∷ b' ∷ c' ∷ d' ∷ []) a b c d e f h = cc
six_back (a' ∷ b' ∷ c' ∷ d' ∷ e' ∷ []) a b c d e f h = cc
six_back (a' ∷ b' ∷ c' ∷ d' ∷ e' ∷ f' ∷ []) a b c d e f h = ap listed h
  where
    listed : Option (List ℕ × List ℕ × List ℕ × List ℕ × List ℕ × List ℕ) → List (List ℕ)
    listed None = []
    listed (Some t) = t.0 ∷ t.1 ∷ t.2 ∷ t.3 ∷ t.4 ∷ t.5 ∷ []
six_back (a' ∷ b' ∷ c' ∷ d' ∷ e' ∷ f' ∷ g ∷ words) a b c d e f h = cc

-- two words and six behind them are eight
pub two_and_six : (words between after : List (List ℕ)) (a b c d e f g h : List ℕ) → next words ≡ Some (a, between)
    → next between ≡ Some (b, after)
    → six after ≡ Some (c, d, e, f, g, h) → eight words ≡ Some (a, b, c, d, e, f, g, h)
two_and_six words between after a b c d e f g h first second rest =
    let all : words ≡ a ∷ between = front_of words between a first in
    let more : between ≡ b ∷ after = front_of between after b second in
    rw (all, more, six_back after c d e f g h rest) refl
