-- Bytes that are told for each point of a rectangle.
use Rattle.std.proofs.Common.{◌≡◌, ℕ, zero, suc, ◌+◌, ◌*◌, ◌<◌, List, length, map}
use Rattle.std.proofs.Common.{slice_index, refl, sym, ap, ◌∙◌, arith}
use Rattle.std.specs.Prelude.{flat_map}
use Rattle.spec_document.specs.Rect.{count_from}
use Rattle.spec_document.specs.Plane.{Plane, bytes_over}
use Rattle.spec_document.proofs.PlaneLemmas.{index-bytes_over, length-pieces}
use Rattle.spec_document.proofs.SamePlane.{plane-ext}

length_counted : (g : ℕ → ℕ) (first n : ℕ) → length (map g (count_from first n)) ≡ n
length_counted g first zero = refl
length_counted g first (suc n) = omega (arith, length_counted g (suc first) n)

product : (w h n : ℕ) → h * (w * n) ≡ w * h * n
product w h n = omega arith

pub length_over : (left top w h n : ℕ) (byte : ℕ → ℕ → ℕ → ℕ) → length (bytes_over left top w h n byte) ≡ w * h * n
length_over left top w h n byte =
    length-pieces (λ row. flat_map (λ column. map (λ c. byte column row c) (count_from 0 n)) (count_from left w)) (w * n)
    (λ row. length-pieces (λ column. map (λ c. byte column row c) (count_from 0 n)) n
    (λ column. length_counted (λ c. byte column row c) 0 n) left w) top h
    ∙ product w h n

-- bytes that are compared at each point of a rectangle
pub over_is : (bytes : List ℕ) (left top w h n : ℕ) (byte : ℕ → ℕ → ℕ → ℕ) → length bytes ≡ w * h * n
    → ((x y c : ℕ) → x < w → y < h → c < n → slice_index bytes ((y * w + x) * n + c) ≡ byte (left + x) (top + y) c)
    → bytes ≡ bytes_over left top w h n byte
over_is bytes left top w h n byte size each =
    let p : Plane = record { width = w; height = h; bpp = n; bytes = bytes } in
    let q : Plane = record { width = w; height = h; bpp = n; bytes = bytes_over left top w h n byte } in
    let same : p ≡ q =
    plane-ext p q refl refl refl size (length_over left top w h n byte)
    (λ x y c hx hy hc. each x y c hx hy hc ∙ sym (index-bytes_over byte left top w h n x y c hx hy hc)) in
    ap (λ plane. plane.bytes) same
