-- A block of pixels that is copied row by row.
use Rattle.std.proofs.Common.{◌≡◌, ℕ, suc, ◌+◌, ◌*◌, ◌-◌, ◌<◌, ◌≤◌, nat_le, nat_lt, ◌&&◌, if◌then◌else◌, List}
use Rattle.std.proofs.Common.{slice_index, arith, inl, inr, ap, sym, ◌∙◌, mul_comm, mul-le-mul_right}
use Rattle.std.proofs.lemmas.Bool.{cases_lt, cases_order}
use Rattle.std.proofs.lemmas.Bool.Decides.{nat_tests}
use Rattle.std.proofs.lemmas.Nat.{mul-add-lt}
use Rattle.xl_tile.specs.Block.{byte_after, is_in, pixel_byte}
use Rattle.xl_tile.specs.declared.block.Spot.{Spot}

-- a byte of a pixel is past the first byte of a column exactly where the pixel is past the column
same_left : (X x b c : ℕ) → c < b → nat_le (X * b) (x * b + c) ≡ nat_le X x
same_left X x b c hc =
    elim (cases_lt x X) [
      | inl before ↦
          let more : suc x * b ≤ X * b = mul-le-mul_right b (omega (arith, before)) in
          let past : x * b + c < X * b = omega (arith, more, hc) in
          grind (arith, nat_tests, past, before)
      | inr within ↦
          let more : X * b ≤ x * b = mul-le-mul_right b within in
          let past : X * b ≤ x * b + c = omega (arith, more) in
          grind (arith, nat_tests, past, within)
    ]

same_right : (X W x b c : ℕ) → c < b → nat_lt (x * b + c) (X * b + W * b) ≡ nat_lt x (X + W)
same_right X W x b c hc =
    elim (cases_lt x (X + W)) [
      | inl before ↦
          let more : suc x * b ≤ (X + W) * b = mul-le-mul_right b (omega (arith, before)) in
          let within : x * b + c < X * b + W * b = omega (arith, more, hc) in
          grind (arith, nat_tests, within, before)
      | inr past ↦
          let more : (X + W) * b ≤ x * b = mul-le-mul_right b past in
          let past' : X * b + W * b ≤ x * b + c = omega (arith, more) in
          grind (arith, nat_tests, past', past)
    ]

-- R and S are where the rows begin
above_row : (x y w r col row R S b n old : ℕ) → R + col < S → row < y + r
    → byte_after (S + x) w (if is_in x y w r col row then b else old) n (R + col) ≡ (if is_in x y w (r + 1) col row then b else old)
above_row x y w r col row R S b n old before up = grind (arith, nat_tests)

below_row : (x y w r col row stride R S b n old : ℕ) → S + stride ≤ R → x + w ≤ stride → y + r < row
    → byte_after (S + x) w (if is_in x y w r col row then b else old) n (R + col) ≡ (if is_in x y w (r + 1) col row then b else old)
below_row x y w r col row stride R S b n old after across down = grind (arith, nat_tests)

this_row : (x y w r col row R S b n old : ℕ) → R ≡ S → row ≡ y + r → (x ≤ col → n ≡ b)
    → byte_after (S + x) w (if is_in x y w r col row then b else old) n (R + col) ≡ (if is_in x y w (r + 1) col row then b else old)
this_row x y w r col row R S b n old start same value = grind (arith, nat_tests)

-- one row of pixels more
pixel_more : (stride x y w r col row b n old : ℕ) → x + w ≤ stride → col < stride → (row ≡ y + r → x ≤ col → n ≡ b)
    → byte_after ((y + r) * stride + x) w (if is_in x y w r col row then b else old) n (row * stride + col)
    ≡ (if is_in x y w (r + 1) col row then b else old)
pixel_more stride x y w r col row b n old across in_row value =
    elim (cases_order row (y + r)) [
      | inl same ↦ let start : row * stride ≡ (y + r) * stride = ap (λ n. n * stride) same in
          this_row x y w r col row _ _ b n old start same (value same)
      | inr other ↦ elim other [
        | inl above ↦ above_row x y w r col row _ _ b n old
            (omega (arith, mul_comm stride (y + r), mul-add-lt row stride col (y + r) above in_row)) above
        | inr below ↦ below_row x y w r col row stride _ _ b n old
            (omega (arith, mul_comm stride row, mul-add-lt (y + r) stride (stride - 1) row below (omega arith))) across below
      ]
    ]

-- one row more of a block
pub row_more : (to from : Spot) (w r bpp : ℕ) (bytes : List ℕ) (old x y c : ℕ) → to.x + w ≤ to.stride → x < to.stride → c < bpp
    → byte_after (((to.y + r) * to.stride + to.x) * bpp) (w * bpp) (pixel_byte to from w r bpp bytes old x y c)
    (slice_index bytes (((from.y + r) * from.stride + from.x) * bpp
    + ((y * to.stride + x) * bpp + c - ((to.y + r) * to.stride + to.x) * bpp))) ((y * to.stride + x) * bpp + c)
    ≡ pixel_byte to from w (r + 1) bpp bytes old x y c
row_more to from w r bpp bytes old x y c across in_row hc =
    let P = y * to.stride + x in
    let Q = (to.y + r) * to.stride + to.x in
    let value = slice_index bytes (((y - to.y + from.y) * from.stride + (x - to.x + from.x)) * bpp + c) in
    let next = slice_index bytes (((from.y + r) * from.stride + from.x) * bpp + (P * bpp + c - Q * bpp)) in
    let before = pixel_byte to from w r bpp bytes old x y c in
    (λ i. if same_left Q P bpp c hc i && same_right Q w P bpp c hc i then next else before)
    ∙ pixel_more to.stride to.x to.y w r x y value next old across in_row
    (λ same past.
    let start : y * to.stride ≡ (to.y + r) * to.stride = ap (λ n. n * to.stride) same in
    let column : P ≡ Q + (x - to.x) = omega (arith, start, past) in
    let spread : P * bpp ≡ (Q + (x - to.x)) * bpp = ap (λ n. n * bpp) column in
    let row : y - to.y + from.y ≡ from.y + r = omega (arith, same) in
    let place : ((from.y + r) * from.stride + from.x) * bpp + (P * bpp + c - Q * bpp)
    ≡ ((from.y + r) * from.stride + (x - to.x + from.x)) * bpp + c = omega (arith, spread) in
    ap (slice_index bytes) (place ∙ ap (λ n. (n * from.stride + (x - to.x + from.x)) * bpp + c) (sym row)))
