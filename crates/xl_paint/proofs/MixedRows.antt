-- Rows of a rectangle that are mixed one after another, in place.
use Rattle.std.proofs.Common.{◌≡◌, ℕ, ◌+◌, ◌-◌, ◌*◌, ◌<◌, ◌≤◌, List, length, slice_index, refl, sym, ◌∙◌, ap, arith, inl, inr}
use Rattle.std.proofs.lemmas.Bool.{cases_lt}
use Rattle.std.proofs.lemmas.Nat.{mul-add-lt}
use Rattle.spec_document.specs.declared.Rect.{Rect}
use Rattle.spec_document.specs.Rect.{part_above_0}
use Rattle.spec_document.specs.Plane.{Plane, byte_at}
use Rattle.spec_document.proofs.PlaneLemmas.{index-bytes_over}
use Rattle.spec_edit.specs.Effect.{mixed}
use Rattle.xl_tiles.specs.Area.{bytes_in}
use Rattle.xl_tiles.specs.Block.{byte_after}
use Rattle.xl_tiles.proofs.Points.{length_over}
use Rattle.xl_paint.specs.Filling.{AreRows}
use Rattle.xl_paint.proofs.Weights.{after_out, after_in, after_behind}

-- the rows above a row have their new bytes, and all others are as they were
pub record AreSoFar (w n r : ℕ) (byte : ℕ → ℕ → ℕ → ℕ) (old new : List ℕ) : Type 0 where
  pub size : length new ≡ length old
  pub done : (column row c : ℕ) → column < w → row < r → c < n
      → slice_index new (row * (w * n) + (column * n + c)) ≡ byte column row c
  pub left : (k : ℕ) → r * (w * n) ≤ k → slice_index new k ≡ slice_index old k

pub none_so_far : (w n : ℕ) (byte : ℕ → ℕ → ℕ → ℕ) (old : List ℕ) → AreSoFar w n 0 byte old old
none_so_far w n byte old = record { size = refl; done = λ column row c hx hy hc. omega (arith, hy); left = λ k h. refl }

-- one row more
pub row_mixed : (w n r : ℕ) (byte : ℕ → ℕ → ℕ → ℕ) (old now next weights line : List ℕ) → AreSoFar w n r byte old now
    → length line ≡ w * n → length next ≡ length now
    → ((k : ℕ) → slice_index next k
    ≡ byte_after (r * (w * n)) (length line) (slice_index now k)
    (mixed (slice_index weights (k - r * (w * n))) (slice_index line (k - r * (w * n))) (slice_index now k)) k)
    → ((column c : ℕ) → column < w → c < n
    → mixed (slice_index weights (column * n + c)) (slice_index line (column * n + c))
    (slice_index old (r * (w * n) + (column * n + c))) ≡ byte column r c)
    → AreSoFar w n (r + 1) byte old next
row_mixed w n r byte old now next weights line so_far full same put is = record {
  size = same ∙ so_far.size;
  done = λ column row c hx hy hc.
      let inside : column * n + c < w * n = omega (arith, mul-add-lt column n c w hx hc) in
      let at = row * (w * n) + (column * n + c) in
      put at
      ∙ elim (cases_lt row r) [
        | inl before ↦
            after_out (r * (w * n)) (length line) _ _ at (omega (arith, mul-add-lt row (w * n) (column * n + c) r before inside))
            ∙ so_far.done column row c hx before hc
        | inr last ↦
            let here : row ≡ r = omega (arith, hy, last) in
            let start : row * (w * n) ≡ r * (w * n) = ap (λ m. m * (w * n)) here in
            let place : at ≡ r * (w * n) + (column * n + c) = omega (arith, start) in
            let offset : at - r * (w * n) ≡ column * n + c = omega (arith, start) in
            (λ i. byte_after (r * (w * n)) (length line) (slice_index now at)
            (mixed (slice_index weights (offset i)) (slice_index line (offset i)) (slice_index now (place i))) (place i))
            ∙ (after_in (r * (w * n)) (length line) _ _ (column * n + c) (omega (arith, inside, full))
            ∙ (ap (λ b. mixed (slice_index weights (column * n + c)) (slice_index line (column * n + c)) b)
            (so_far.left (r * (w * n) + (column * n + c)) (omega arith))
            ∙ (is column c hx hc ∙ ap (λ m. byte column m c) (sym here))))
      ];
  left = λ k h.
      let behind : r * (w * n) + w * n ≤ k = omega (arith, h) in
      put k ∙ (after_behind (r * (w * n)) (length line) _ _ k (omega (arith, behind, full))
      ∙ so_far.left k (omega (arith, behind)));
}

-- the old bytes of a rectangle
pub old_byte : (p : Plane) (rect : Rect) (old : List ℕ) → old ≡ bytes_in p rect → (column row c : ℕ) → column < rect.w
    → row < rect.h → c < p.bpp
    → slice_index old (row * (rect.w * p.bpp) + (column * p.bpp + c))
    ≡ byte_at p (part_above_0 rect.x + column) (part_above_0 rect.y + row) c
old_byte p rect old is column row c hx hy hc =
    let place : row * (rect.w * p.bpp) + (column * p.bpp + c) ≡ (row * rect.w + column) * p.bpp + c = omega arith in
    ap (slice_index old) place
    ∙ (ap (λ xs. slice_index xs ((row * rect.w + column) * p.bpp + c)) is
    ∙ index-bytes_over (byte_at p) (part_above_0 rect.x) (part_above_0 rect.y) rect.w rect.h p.bpp column row c hx hy hc)

pub old_length : (p : Plane) (rect : Rect) (old : List ℕ) → old ≡ bytes_in p rect → length old ≡ rect.h * (rect.w * p.bpp)
old_length p rect old is =
    ap length is ∙ (length_over (part_above_0 rect.x) (part_above_0 rect.y) rect.w rect.h p.bpp (byte_at p) ∙ omega arith)

-- all rows
pub all_rows : (p : Plane) (rect : Rect) (byte : ℕ → ℕ → ℕ → ℕ) (old new : List ℕ) → old ≡ bytes_in p rect
    → AreSoFar rect.w p.bpp rect.h byte old new
    → AreRows rect.w rect.h p.bpp byte new
all_rows p rect byte old new is so_far = record { size = so_far.size ∙ old_length p rect old is; each = so_far.done }
