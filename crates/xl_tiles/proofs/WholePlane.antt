-- A plane that is written whole.
use Rattle.std.proofs.Common.{◌≡◌, ℕ, ◌+◌, ◌*◌, Bool, true, cond, List, slice_index, length, refl, ap, ◌∙◌, arith, pos}
use Rattle.std.proofs.lemmas.Bool.Decides.{nat_tests}
use Rattle.spec_document.specs.Rect.{has_point, sheet}
use Rattle.spec_document.specs.Plane.{Plane, byte_at}
use Rattle.spec_document.proofs.PlaneLemmas.{byte_at-plane_of}
use Rattle.spec_document.proofs.SamePlane.{plane-ext}
use Rattle.xl_tile.specs.Block.{is_in}
use Rattle.xl_tiles.specs.Written.{from_edge, written}
use Rattle.xl_tile.proofs.Points.{length_over}

chosen : (b : Bool) (x y : ℕ) → b ≡ true → cond b x y ≡ x
chosen b x y e = ap (λ t. cond t x y) e

pub written_whole : (p : Plane) (bytes : List ℕ) → length bytes ≡ p.width * p.height * p.bpp
    → written p (sheet p.width p.height) bytes ≡ record { width = p.width; height = p.height; bpp = p.bpp; bytes = bytes }
written_whole p bytes size =
    let w = p.width in
    let h = p.height in
    let b = p.bpp in
    let whole : Plane = record { width = w; height = h; bpp = b; bytes = bytes } in
    let byte : ℕ → ℕ → ℕ → ℕ = λ x y c.
    cond (has_point (sheet w h) (pos x) (pos y)) (slice_index bytes ((from_edge y (pos 0) * w + from_edge x (pos 0)) * b + c))
    (byte_at p x y c) in
    plane-ext (written p (sheet w h) bytes) whole refl refl refl (length_over 0 0 w h b byte) size
    (λ x y c hx hy hc.
    let inside : is_in 0 0 w h x y ≡ true = grind (arith, nat_tests, hx, hy) in
    let column : from_edge x (pos 0) ≡ x = edge x in
    let line : from_edge y (pos 0) ≡ y = edge y in
    byte_at-plane_of byte w h b x y c hx hy hc
    ∙ (chosen (is_in 0 0 w h x y) _ _ inside
    ∙ (λ i. slice_index bytes ((line i * w + column i) * b + c))))
  where
    edge : (x : ℕ) → from_edge x (pos 0) ≡ x
    edge x = let e : x + 0 ≡ x = omega arith in e
