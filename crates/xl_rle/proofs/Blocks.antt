-- A block that is written where only its front counts.
use Rattle.std.proofs.Common.{◌≡◌, ℕ, ◌+◌, ◌≤◌, List, ◌++◌, length, take, replicate, sym, ◌∙◌, ap, arith, length-take-le}
use Rattle.std.proofs.lemmas.List.{take-append-le, take-take, take-replicate, length-replicate}
use Rattle.std.proofs.Math.Seq.{take-append-add}

-- the front of a block that begins at a place, with what stands behind it
front_of : (at n : ℕ) (out block behind : List ℕ) → at ≤ length out → n ≤ length block
    → take (at + n) (take at out ++ (block ++ behind)) ≡ take at out ++ take n block
front_of at n out block behind inside some =
    let size : length (take at out) ≡ at = length-take-le at out inside in
    ap (λ k. take (k + n) (take at out ++ (block ++ behind))) (sym size)
    ∙ (take-append-add (take at out) (block ++ behind) n ∙ ap (λ xs. take at out ++ xs) (take-append-le n block behind some))

pub front_of_run : (at n m value : ℕ) (out block behind : List ℕ) → at ≤ length out → n ≤ m → block ≡ replicate m value
    → take (at + n) (take at out ++ (block ++ behind)) ≡ take at out ++ replicate n value
front_of_run at n m value out block behind inside within is =
    front_of at n out block behind inside (omega (arith, ap length is, length-replicate m value, within))
    ∙ ap (λ xs. take at out ++ xs) (ap (take n) is ∙ take-replicate n m value within)

pub front_of_literal : (at n m : ℕ) (bytes out block behind : List ℕ) → at ≤ length out → n ≤ m → m ≤ length bytes
    → block ≡ take m bytes
    → take (at + n) (take at out ++ (block ++ behind)) ≡ take at out ++ take n bytes
front_of_literal at n m bytes out block behind inside within fits is =
    front_of at n out block behind inside (omega (arith, ap length is, length-take-le m bytes fits, within))
    ∙ ap (λ xs. take at out ++ xs) (ap (take n) is ∙ take-take n m bytes within)
