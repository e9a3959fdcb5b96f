use Rattle.std.proofs.Common.{◌≡◌, ℕ, ◌/◌, ◌%◌, ◌∙◌, refl, sym, arith}
use Rattle.spec_document.specs.declared.Pixel.{Pixel}
use Rattle.spec_document.specs.Over.{IsPixel}
use Rattle.xl_blend.specs.Words.{word_of, pixel_of}
use Rattle.xl_blend.proofs.SoFar.{mapped_so_far-none, mapped_so_far-more, mapped_so_far-all}
use Rattle.xl_blend.proofs.uniform_rows.fill.Goals as goal

-- the pixel of a pixel's word
again : (p q : Pixel) (w : ℕ) → IsPixel p → w ≡ word_of p → q ≡ pixel_of w → q ≡ p
again p q w bytes word pixel =
    let r : w % 256 ≡ p.r = omega (arith, bytes.r) in
    let g : w / 256 % 256 ≡ p.g = omega (arith, bytes.r, bytes.g) in
    let b : w / 65536 % 256 ≡ p.b = omega (arith, bytes.r, bytes.g, bytes.b) in
    let a : w / 16777216 % 256 ≡ p.a = omega (arith, bytes.r, bytes.g, bytes.b, bytes.a) in
    pixel ∙ rw (r, g, b, a) refl

pub loop-place-init : goal.loop-place-init
loop-place-init c = mapped_so_far-none _ _

pub loop-place-preserved : goal.loop-place-preserved
loop-place-preserved c =
    mapped_so_far-more _ _ _ c.args.pixel _ (omega arith)
    (again _ _ _ c.word-word.ensures.bytes c.word-word.ensures.value c.of_word.ensures)
    ∙ c.loop-place.invariant

pub returns : goal.returns
returns c = sym (mapped_so_far-all _ _ _ (omega arith)) ∙ c.loop-place.invariant
