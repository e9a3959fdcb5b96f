-- Blocks of pixels that are joined from planes.
use Rattle.std.proofs.Common.{◌≡◌, ℕ, zero, suc, ◌+◌, ◌-◌, ◌*◌, ◌/◌, ◌%◌, ◌<◌, ◌≤◌, List, [], ◌++◌, length}
use Rattle.std.proofs.Common.{length-take-le, take, drop, slice_index, inl, inr, sym, ap, ◌∙◌, arith}
use Rattle.std.specs.Prelude.{Ok, Err, slice_index_or, MatchResult}
use Rattle.std.proofs.lemmas.Bool.{cases_lt}
use Rattle.std.proofs.lemmas.Bool.Decides.{nat_tests}
use Rattle.std.proofs.lemmas.List.{get_or-take, get_or-drop, get_or_append_left, get_or-append_right}
use Rattle.std.proofs.lemmas.Nat.{div-add-mod'}
use Rattle.std.proofs.Math.Nat.{mod-lt, div-lt_iff_lt-mul}
use borrow.Rule.Slice.PartMut.{put_mid, post_of}
use Rattle.spec_fields.specs.Reading.{Read, ◌>>=◌}
use Rattle.spec_hierarchy.specs.Tiles.{interleaved}
use Rattle.spec_hierarchy.specs.Reading.{planes_at, tile_at}
use Rattle.xl_tile.specs.Block.{byte_after}
use Rattle.xl_tile.specs.Joined.{pieces}
use Rattle.xl_tile.specs.Packed.{packed, IsPacked}
use Rattle.xl_tile.proofs.JoinedTiles.{length_of_pieces, positive_right, byte_of_interleaved, joined_is, tile_stops}
use Rattle.xl_tile.proofs.PackedTiles.{unpacked}

-- a byte of one of the planes
byte_of_piece : (b n : ℕ) (bytes : List ℕ) (k c : ℕ) → k < n → c < b
    → slice_index (slice_index_or (pieces b n bytes) c []) k ≡ slice_index bytes (c * n + k)
byte_of_piece zero n bytes k c hk hc = absurd (omega (arith, hc))
byte_of_piece (suc b) n bytes k zero hk hc =
    let place : k ≡ zero * n + k = omega arith in
    get_or-take n bytes k 0 hk ∙ ap (slice_index bytes) place
byte_of_piece (suc b) n bytes k (suc c) hk hc =
    let place : n + (c * n + k) ≡ suc c * n + k = omega arith in
    byte_of_piece b n (drop n bytes) k c hk (omega (arith, hc)) ∙ (get_or-drop n bytes (c * n + k) 0 ∙ ap (slice_index bytes) place)

-- a byte of one of the pixels
pub byte_of_pixel : (b n : ℕ) (bytes : List ℕ) (k c : ℕ) → k < n → c < b
    → slice_index (interleaved n (pieces b n bytes)) (k * b + c) ≡ slice_index bytes (c * n + k)
byte_of_pixel b n bytes k c hk hc =
    byte_of_interleaved b n (pieces b n bytes) k c (length_of_pieces b n bytes) hk hc ∙ byte_of_piece b n bytes k c hk hc

-- a byte of a row of pixels
byte_of_row : (b n first w : ℕ) (bytes pixels : List ℕ) → first + w ≤ n
    → ((k c : ℕ) → k < w → c < b → slice_index pixels (k * b + c) ≡ slice_index bytes (c * n + (first + k)))
    → (j : ℕ) → j < w * b → slice_index pixels j ≡ slice_index (interleaved n (pieces b n bytes)) (first * b + j)
byte_of_row b n first w bytes pixels fits joined j within =
    let some : 0 < b = positive_right w b j within in
    let k : j / b < w = (div-lt_iff_lt-mul some).1 within in
    let c : j % b < b = mod-lt j some in
    let split : (j / b) * b + j % b ≡ j = div-add-mod' j b in
    let place : (first + j / b) * b + j % b ≡ first * b + j = omega (arith, split) in
    ap (slice_index pixels) (sym split)
    ∙ (joined (j / b) (j % b) k c
    ∙ (sym (byte_of_pixel b n bytes (first + j / b) (j % b) (omega (arith, k, fits)) c)
    ∙ ap (slice_index (interleaved n (pieces b n bytes))) place))

-- all pixels
pub all_pixels : (b n : ℕ) (bytes pixels : List ℕ) → length pixels ≡ n * b
    → ((k c : ℕ) → k < n → c < b → slice_index pixels (k * b + c) ≡ slice_index bytes (c * n + (0 + k)))
    → pixels ≡ interleaved n (pieces b n bytes)
all_pixels b n bytes pixels size joined =
    joined_is b n (pieces b n bytes) pixels (length_of_pieces b n bytes) size (λ k c hk hc.
    let place : c * n + (0 + k) ≡ c * n + k = omega arith in
    joined k c hk hc ∙ (ap (slice_index bytes) place ∙ sym (byte_of_piece b n bytes k c hk hc)))

-- a part of bytes is written
put_part : (xs ys : List ℕ) (a n m : ℕ) (new : ℕ → ℕ) → m ≡ n → length ys ≡ n → a + n ≤ length xs
    → ((j : ℕ) → j < n → slice_index ys j ≡ new j)
    → (k : ℕ) → slice_index (put_mid a m xs ys) k ≡ byte_after a n (slice_index xs k) (new (k - a)) k
put_part xs ys a n m new same many fits each k =
    let front : length (take a xs) ≡ a = length-take-le a xs (omega (arith, fits)) in
    elim (cases_lt k a) [
      | inl low ↦
          let here : slice_index (put_mid a m xs ys) k ≡ slice_index xs k =
          get_or_append_left (take a xs) (ys ++ post_of a m xs) 0 k (omega (arith, front, low)) ∙ get_or-take a xs k 0 low in
          here ∙ grind (arith, nat_tests, low)
      | inr high ↦ elim (cases_lt k (a + n)) [
        | inl inside ↦
            let here : slice_index (put_mid a m xs ys) k ≡ new (k - a) =
            get_or-append_right (take a xs) (ys ++ post_of a m xs) a k 0 front high
            ∙ (get_or_append_left ys (post_of a m xs) 0 (k - a) (omega (arith, many, inside, high))
            ∙ each (k - a) (omega (arith, inside, high))) in
            here ∙ grind (arith, nat_tests, high, inside)
        | inr after ↦
            let there : a + (m + (k - a - m)) ≡ k = omega (arith, after, same) in
            let here : slice_index (put_mid a m xs ys) k ≡ slice_index xs k =
            get_or-append_right (take a xs) (ys ++ post_of a m xs) a k 0 front high
            ∙ (get_or-append_right ys (post_of a m xs) m (k - a) 0 (many ∙ sym same) (omega (arith, after, same))
            ∙ (get_or-drop m (drop a xs) (k - a - m) 0
            ∙ (get_or-drop a xs (m + (k - a - m)) 0 ∙ ap (slice_index xs) there))) in
            here ∙ grind (arith, nat_tests, after)
      ]
    ]

-- a row of pixels is written
pub put_row : (b n first w at m : ℕ) (bytes pixels out : List ℕ) → m ≡ w * b → length pixels ≡ w * b → at + w * b ≤ length out
    → first + w ≤ n
    → ((k c : ℕ) → k < w → c < b → slice_index pixels (k * b + c) ≡ slice_index bytes (c * n + (first + k)))
    → (k : ℕ) → slice_index (put_mid at m out pixels) k
    ≡ byte_after at (w * b) (slice_index out k) (slice_index (interleaved n (pieces b n bytes)) (first * b + (k - at))) k
put_row b n first w at m bytes pixels out same many fits within joined =
    put_part out pixels at (w * b) m (λ j. slice_index (interleaved n (pieces b n bytes)) (first * b + j)) same many fits
    (byte_of_row b n first w bytes pixels within joined)

-- the planes of a tile in runs
pub planes_are : (file : List ℕ) (at n bpp : ℕ) (planes : List ℕ) (r : Read (Unit {0})) → IsPacked file at n bpp 1
    → MatchResult r (λ _. planes_at bpp file at n ≡ Ok (pieces bpp n planes)) (λ e. planes_at bpp file at n ≡ Err e)
    → interleaved n (pieces bpp n planes) ≡ packed file at n bpp 1
unfolding tile_at
planes_are file at n bpp planes (Ok x) h e =
    unpacked file at n bpp 1 (interleaved n (pieces bpp n planes)) h (ap (λ r. r >>= (λ planes. Ok (interleaved n planes))) e)
planes_are file at n bpp planes (Err f) h e =
    let stops = tile_stops file at n bpp f e in
    let reads = h.reads in
    cc
