-- Whether a number is one of some places.
use Rattle.std.proofs.Common.{◌≡◌, ◌≢◌, ℕ, ◌<◌, ◌≤◌, true, false, List, [], ◌∷◌, ◌++◌, refl, ap, arith, lt-ltb}
use Rattle.std.specs.Prelude.{nat_lt}
use Rattle.std.specs.List.{AllByRecursion}
use Rattle.xl_turn.specs.Sums.{times}
use Rattle.xl_turn.proofs.Totals.{same_self, same_false, times_last}
use Rattle.spec_seats.specs.Picked.{is_at, Rise}

-- a number past all places stands nowhere
pub times_past : (x : ℕ) (places : List ℕ) → AllByRecursion (λ p. p < x) places → times x places ≡ 0
times_past x [] past = refl
times_past x (p ∷ places) past =
    let here = same_false x p (λ q. omega (arith, q, past.0)) in
    let rest = times_past x places past.1 in
    omega (arith, here, rest)

pub at_past : (x : ℕ) (places : List ℕ) → AllByRecursion (λ p. p < x) places → is_at x places ≡ false
at_past x places past = ap (nat_lt 0) (times_past x places past)

-- the last place is there
pub at_last : (places : List ℕ) (p : ℕ) → is_at p (places ++ p ∷ []) ≡ true
at_last places p =
    let all = times_last p p places in
    let here = same_self p in
    lt-ltb 0 (times p (places ++ p ∷ [])) (omega arith)

-- one place more makes no other number a place
pub at_other : (x p : ℕ) (places : List ℕ) → x ≢ p → is_at x (places ++ p ∷ []) ≡ is_at x places
at_other x p places apart =
    let all = times_last x p places in
    let none = same_false x p apart in
    let same : times x (places ++ p ∷ []) ≡ times x places = omega arith in
    ap (nat_lt 0) same

pub all_later : (n m : ℕ) (places : List ℕ) → n ≤ m → AllByRecursion (λ p. p < n) places → AllByRecursion (λ p. p < m) places
all_later n m [] le all = tt
all_later n m (p ∷ places) le all = (omega (arith, le, all.0), all_later n m places le all.1)

pub all_and_last : (n p : ℕ) (places : List ℕ) → AllByRecursion (λ q. q < n) places → p < n
    → AllByRecursion (λ q. q < n) (places ++ p ∷ [])
all_and_last n p [] all last = (last, tt)
all_and_last n p (q ∷ places) all last = (all.0, all_and_last n p places all.1 last)

-- a place behind all others
pub rise_more : (p : ℕ) (places : List ℕ) → Rise places → AllByRecursion (λ q. q < p) places → Rise (places ++ p ∷ [])
rise_more p [] rise past = tt
rise_more p (q ∷ []) rise past = (past.0, tt)
rise_more p (q ∷ r ∷ places) rise past = (rise.0, rise_more p (r ∷ places) rise.1 past.1)
