-- The front of a word, in a room of its own.
use Rattle.std.proofs.Common.{◌≡◌, ℕ, Bool, true, false, List, [], ◌++◌, length, take, drop, length-take}
use Rattle.std.proofs.Common.{refl, sym, ◌∙◌, arith}
use Rattle.std.proofs.lemmas.Bool.{ltb-true, ltb-false}
use Rattle.std.specs.Prelude.{nat_lt, min}
use Rattle.std.proofs.lemmas.List.{take_all, drop_all, append-nil}
use Rattle.std.proofs.Math.Seq.{take-append_seam}

by_length : (b : Bool) (word front room : List ℕ) (kept : ℕ) → nat_lt 40 (length word) ≡ b → kept ≡ min (length word) 40
    → front ≡ take kept word → length room ≡ 40 → take (length word) (front ++ drop kept room) ≡ take 40 word
by_length true word front room kept t k f r =
    let long = ltb-true 40 (length word) t in
    let is : kept ≡ 40 = omega (arith, k, long) in
    let none : drop kept room ≡ [] = drop_all kept room (omega (arith, is, r)) in
    rw (f, none, append-nil (take kept word), is) (take_all (length word) (take 40 word) (omega (arith, length-take 40 word, long)))
by_length false word front room kept t k f r =
    let short = ltb-false 40 (length word) t in
    let all : take kept word ≡ word = take_all kept word (omega (arith, k, short)) in
    rw (f, all) (take-append_seam word (drop kept room) ∙ sym (take_all 40 word (omega (arith, short))))

pub front_kept : (word front room : List ℕ) (kept : ℕ) → kept ≡ min (length word) 40 → front ≡ take kept word → length room ≡ 40
    → take (length word) (front ++ drop kept room) ≡ take 40 word
front_kept word front room kept k f r = by_length (nat_lt 40 (length word)) word front room kept refl k f r
