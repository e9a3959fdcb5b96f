-- The bytes of the words of four pixels.
use Rattle.std.proofs.Common.{◌≡◌, ℕ, ◌+◌, ◌*◌, ◌/◌, ◌%◌, ◌≤◌, [], ◌∷◌, suc, refl, ap, ◌∙◌, arith}
use lib.Lanes.{digits_l, number_l}
use Rattle.spec_document.specs.declared.Pixel.{Pixel}
use Rattle.spec_document.specs.Over.{IsPixel}
use Rattle.xl_blend.specs.Words.{word_of}

-- the lowest byte of a number, and the rest of it
lowest : (x byte rest : ℕ) → byte ≤ 255 → x ≡ byte + 256 * rest → (x % 256 ≡ byte) × (x / 256 ≡ rest)
lowest x byte rest small is = (omega arith, omega arith)

-- the bytes of one word, and of what stands above it
word_first : (p : Pixel) (n rest : ℕ) → IsPixel p
    → digits_l 256 (suc (suc (suc (suc n)))) (word_of p + 4294967296 * rest) ≡ p.r ∷ p.g ∷ p.b ∷ p.a ∷ digits_l 256 n rest
word_first p n rest bytes =
    let x = word_of p + 4294967296 * rest in
    let from_blue = p.b + 256 * (p.a + 256 * rest) in
    let first = lowest x p.r (p.g + 256 * from_blue) bytes.r (omega arith) in
    let second = lowest (p.g + 256 * from_blue) p.g from_blue bytes.g refl in
    let third = lowest from_blue p.b (p.a + 256 * rest) bytes.b refl in
    let fourth = lowest (p.a + 256 * rest) p.a rest bytes.a refl in
    rw (first.0, first.1, second.0, second.1, third.0, third.1, fourth.0, fourth.1) refl

pub four_words : (p q r s : Pixel) → IsPixel p → IsPixel q → IsPixel r → IsPixel s
    → digits_l 256 16 (number_l 4294967296 (word_of p ∷ word_of q ∷ word_of r ∷ word_of s ∷ []))
    ≡ p.r ∷ p.g ∷ p.b ∷ p.a ∷ q.r ∷ q.g ∷ q.b ∷ q.a ∷ r.r ∷ r.g ∷ r.b ∷ r.a ∷ s.r ∷ s.g ∷ s.b ∷ s.a ∷ []
four_words p q r s p_bytes q_bytes r_bytes s_bytes =
    let fourth = word_first s 0 0 s_bytes in
    let third = word_first r 4 (word_of s + 4294967296 * 0) r_bytes
    ∙ ap (λ l. r.r ∷ r.g ∷ r.b ∷ r.a ∷ l) fourth in
    let second = word_first q 8 (word_of r + 4294967296 * (word_of s + 4294967296 * 0)) q_bytes
    ∙ ap (λ l. q.r ∷ q.g ∷ q.b ∷ q.a ∷ l) third in
    word_first p 12 (word_of q + 4294967296 * (word_of r + 4294967296 * (word_of s + 4294967296 * 0))) p_bytes
    ∙ ap (λ l. p.r ∷ p.g ∷ p.b ∷ p.a ∷ l) second
