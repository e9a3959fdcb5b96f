-- A row of which a part was written.
use Rattle.std.proofs.Common.{◌≡◌, ℕ, ◌+◌, ◌-◌, ◌<◌, ◌≤◌, cond, ◌&&◌, nat_lt, List, ◌++◌, length, take, drop, ◌∙◌, ap}
use Rattle.std.proofs.Common.{arith, inl, inr, ◌⊎◌, length-take-le, length-drop, sym}
use Rattle.std.specs.Prelude.{nat_le}
use Rattle.std.specs.List.{zip}
use Rattle.std.proofs.lemmas.Bool.{le-leb, lt-ltb, cases_order}
use Rattle.std.proofs.lemmas.Bool.Decides.{nat_tests}
use Rattle.std.proofs.lemmas.List.{get_or_append_left, get_or-append_right, get_or-take, get_or-drop, get_or-map, length-map}
use Rattle.std.proofs.lemmas.Slice.Zip.{get_or-zip, length-zip as zip-length}
use borrow.Rule.Slice.PartMut.{put_mid, post_of}
use Rattle.spec_document.specs.declared.Mode.{Mode}
use Rattle.spec_document.specs.declared.Pixel.{Pixel}
use Rattle.spec_document.specs.Over.{over, clear}
use Rattle.xl_blend.specs.Rows.{over_rows}
use Rattle.xl_compose.specs.Laid.{pixel, AreLaid}

-- what a written part says of each pixel
abbrev chosen : (a n : ℕ) → (inside outside : Pixel) → (k : ℕ) → Pixel
chosen a n inside outside k = cond (nat_le a k && nat_lt k (a + n)) inside outside

chosen_out : (a n : ℕ) (x y : Pixel) (k : ℕ) → (k < a ⊎ (a + n ≤ k)) → chosen a n x y k ≡ y
chosen_out a n x y k (inl h) = grind (arith, nat_tests)
chosen_out a n x y k (inr h) = grind (arith, nat_tests)

chosen_in : (a n : ℕ) (x y : Pixel) (k : ℕ) → a ≤ k → k < a + n → chosen a n x y k ≡ x
chosen_in a n x y k low high =
    ap (λ b. cond (b && nat_lt k (a + n)) x y) (le-leb a k low) ∙ ap (λ b. cond b x y) (lt-ltb k (a + n) high)

module _ (xs ys : List Pixel) (a n : ℕ) (many : length ys ≡ n) (fits : a + n ≤ length xs) where
  front : length (take a xs) ≡ a
  front = length-take-le a xs (omega arith)

  pub put_before : (k : ℕ) → k < a → pixel (put_mid a n xs ys) k ≡ pixel xs k
  put_before k h = get_or_append_left (take a xs) (ys ++ post_of a n xs) clear k (omega (arith, front)) ∙ get_or-take a xs k clear h

  pub put_inside : (k : ℕ) → a ≤ k → k < a + n → pixel (put_mid a n xs ys) k ≡ pixel ys (k - a)
  put_inside k low high =
      get_or-append_right (take a xs) (ys ++ post_of a n xs) a k clear front low
      ∙ get_or_append_left ys (post_of a n xs) clear (k - a) (omega (arith, many))

  pub put_after : (k : ℕ) → a + n ≤ k → pixel (put_mid a n xs ys) k ≡ pixel xs k
  put_after k h =
      let there : a + (n + (k - a - n)) ≡ k = omega arith in
      get_or-append_right (take a xs) (ys ++ post_of a n xs) a k clear front (omega arith)
      ∙ (get_or-append_right ys (post_of a n xs) n (k - a) clear many (omega arith)
      ∙ (get_or-drop n (drop a xs) (k - a - n) clear
      ∙ (get_or-drop a xs (n + (k - a - n)) clear ∙ ap (pixel xs) there)))

  -- the written part, and else what was there
  pub put_pixel : (k : ℕ) → pixel (put_mid a n xs ys) k ≡ chosen a n (pixel ys (k - a)) (pixel xs k) k
  put_pixel k = elim (cases_order k a) [
    | inl same ↦ inside_or_after k (omega arith)
    | inr other ↦ elim other [
      | inl below ↦ put_before k below ∙ sym (chosen_out a n (pixel ys (k - a)) (pixel xs k) k (inl below))
      | inr past ↦ inside_or_after k (omega arith)
    ]
  ]
    where
      inside_or_after : (k : ℕ) → a ≤ k → pixel (put_mid a n xs ys) k ≡ chosen a n (pixel ys (k - a)) (pixel xs k) k
      inside_or_after k low = elim (cases_order k (a + n)) [
        | inl same ↦ put_after k (omega arith) ∙ sym (chosen_out a n (pixel ys (k - a)) (pixel xs k) k (inr (omega arith)))
        | inr other ↦ elim other [
          | inl below ↦ put_inside k low below ∙ sym (chosen_in a n (pixel ys (k - a)) (pixel xs k) k low below)
          | inr past ↦ put_after k (omega arith) ∙ sym (chosen_out a n (pixel ys (k - a)) (pixel xs k) k (inr (omega arith)))
        ]
      ]

length-zip : (xs ys : List Pixel) (n : ℕ) → length xs ≡ n → length ys ≡ n → length (zip xs ys) ≡ n
length-zip xs ys n p q = zip-length xs ys ∙ omega (arith, p, q)

-- each pixel of a row that was laid over a row
over_pixel : (mode : Mode) (below above : List Pixel) (n k : ℕ) → length below ≡ n → length above ≡ n → k < n
    → pixel (over_rows mode below above) k ≡ over mode (pixel below k) (pixel above k)
over_pixel mode below above n k p q h =
    get_or-map (λ (p : Pixel × Pixel). over mode p.0 p.1) (zip below above) k (
      clear,
      clear,
    ) clear (omega (arith, length-zip below above n p q))
    ∙ ap (λ (p : Pixel × Pixel). over mode p.0 p.1) (get_or-zip below above k (clear, clear) (omega arith) (omega arith))

chosen_same : (a n k : ℕ) (x z y : Pixel) → (a ≤ k → k < a + n → x ≡ z) → chosen a n x y k ≡ chosen a n z y k
chosen_same a n k x z y same = elim (cases_order k a) [
  | inl here ↦ low (omega arith)
  | inr other ↦ elim other [
    | inl below ↦ chosen_out a n x y k (inl below) ∙ sym (chosen_out a n z y k (inl below))
    | inr past ↦ low (omega arith)
  ]
]
  where
    low : a ≤ k → chosen a n x y k ≡ chosen a n z y k
    low h = elim (cases_order k (a + n)) [
      | inl here ↦ chosen_out a n x y k (inr (omega arith)) ∙ sym (chosen_out a n z y k (inr (omega arith)))
      | inr other ↦ elim other [
        | inl below ↦ ap (λ w. chosen a n w y k) (same h below)
        | inr past ↦ chosen_out a n x y k (inr (omega arith)) ∙ sym (chosen_out a n z y k (inr (omega arith)))
      ]
    ]

-- a part of a row with pixels laid over it
pub laid_part : (mode : Mode) (row above part : List Pixel) (skip n : ℕ) → n ≡ length above → skip + n ≤ length row
    → part ≡ over_rows mode (take n (drop skip row)) above → AreLaid mode skip above row (put_mid skip n row part)
laid_part mode row above part skip n many fits is k =
    let under = take n (drop skip row) in
    let size : length under ≡ n = length-take-le n (drop skip row) (omega (arith, length-drop skip row)) in
    let made : length part ≡ n = ap length is
    ∙ (length-map (zip under above) (λ (p : Pixel × Pixel). over mode p.0 p.1) ∙ length-zip under above n size (omega arith)) in
    let ends : skip + n ≡ skip + length above = omega arith in
    put_pixel row part skip n made fits k
    ∙ (chosen_same skip n k (pixel part (k - skip)) (over mode (pixel row k) (pixel above (k - skip))) (pixel row k)
    (λ low high.
    let there : skip + (k - skip) ≡ k = omega arith in
    let short : k - skip < n = omega arith in
    ap (λ r. pixel r (k - skip)) is
    ∙ (over_pixel mode under above n (k - skip) size (omega arith) short
    ∙ ap (λ p. over mode p (pixel above (k - skip)))
    (get_or-take n (drop skip row) (k - skip) clear short ∙ (get_or-drop skip row (k - skip) clear ∙ ap (pixel row) there))))
    ∙ ap (λ e. cond (nat_le skip k && nat_lt k e) (over mode (pixel row k) (pixel above (k - skip))) (pixel row k)) ends)
