use Rattle.std.proofs.Common.{◌≡◌, ℕ, ◌<◌, ◌≤◌, Bool, true, false, length, slice_index_or, refl, arith}
use Rattle.std.proofs.Math.Dec.{leb}
use Rattle.std.proofs.lemmas.Bool.{leb-true}
use Rattle.std.specs.Bool.{OnTrue}
use Rattle.spec_document.specs.declared.Pixel.{Pixel}
use Rattle.spec_document.specs.Over.{clear, IsPixel}
use Rattle.xl_blend.specs.Words.{word_of}
use Rattle.xl_blend.proofs.alphas.is_opaque.Goals as goal

on_true : (test : Bool) (P : Type 0) → (test ≡ true → P) → OnTrue test P
on_true true P h = h refl
on_true false P h = tt

opaque : (p : Pixel) → IsPixel p → 4278190080 ≤ word_of p → p.a ≡ 255
opaque p is big = omega arith

pub returns-in-Some : goal.returns-in-Some
returns-in-Some c =
    on_true (leb 4278190080 c.least_word.result) ((k : ℕ) → k < length c.args.row.now
    → (slice_index_or c.args.row.now k clear).a ≡ 255)
    (λ test k h. opaque _ (c.least_word.ensures.pixels k h)
    (omega (arith, leb-true 4278190080 c.least_word.result test, c.least_word.ensures.least k h)))
