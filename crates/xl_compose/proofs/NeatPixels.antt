-- A pixel without alpha is clear in every picture. So nothing laid over such a pixel changes it.
use Rattle.std.proofs.Common.{◌≡◌, ℕ, ◌+◌, ◌-◌, ◌*◌, ◌/◌, ◌<◌, Bool, true, false, cond, min, nat_eq, refl, sym, ◌∙◌, ap, arith}
use Rattle.std.proofs.lemmas.Bool.{eqb-true, eqb-false}
use Rattle.std.proofs.lemmas.Nat.{div-mul-add}
use Rattle.spec_document.specs.declared.Mode.{Mode}
use Rattle.spec_document.specs.declared.Mode.TheVariants.{Normal}
use Rattle.spec_document.specs.declared.Pixel.{Pixel}
use Rattle.spec_document.specs.Blend.{mul}
use Rattle.xl_compose.specs.Neat.{IsNeat}
use Rattle.spec_document.specs.Over.{over, over_normal, over_blended, mean, clear}

mean_below : (total above below : ℕ) → 0 < total → mean total 0 above below ≡ below
mean_below total above below h =
    let whole : total - 0 ≡ total = omega arith in
    let all : 2 * (above * 0 + below * (total - 0)) + total ≡ below * (2 * total) + total =
    omega (arith, ap (λ t. below * t) whole) in
    ap (λ n. n / (2 * total)) all ∙ div-mul-add below (2 * total) total (omega arith)

blended_clear : (mode : Mode) (p : Pixel) → over_blended mode p clear ≡ p
blended_clear mode p = let none : min 0 p.a ≡ 0 = omega arith in rw none refl

-- what the normal mode gives, by the alpha of the result
normal_by : (p : Pixel) (alpha : ℕ) → IsNeat p → alpha ≡ p.a
    → cond (nat_eq alpha 0) clear (record { r = mean alpha 0 0 p.r; g = mean alpha 0 0 p.g; b = mean alpha 0 0 p.b; a = alpha }) ≡ p
normal_by p alpha neat is = by (nat_eq alpha 0) refl
  where
    by : (b : Bool) → nat_eq alpha 0 ≡ b
        → cond b clear (record { r = mean alpha 0 0 p.r; g = mean alpha 0 0 p.g; b = mean alpha 0 0 p.b; a = alpha }) ≡ p
    by true e = let none : alpha ≡ 0 = eqb-true alpha 0 e in sym (neat (sym is ∙ none))
    by false e =
        let some : (alpha ≡ 0 → ⊥) = eqb-false alpha 0 e in
        λ i. record {
          r = mean_below alpha 0 p.r (omega (arith, some)) i;
          g = mean_below alpha 0 p.g (omega (arith, some)) i;
          b =
              mean_below alpha 0 p.b (omega (arith, some)) i;
          a = is i;
        }

normal_clear : (p : Pixel) → IsNeat p → over_normal p clear ≡ p
normal_clear p neat = normal_by p (0 + mul p.a (255 - 0)) neat (omega arith)

-- nothing laid over a neat pixel changes it
pub over_clear : (mode : Mode) (p : Pixel) → IsNeat p → over mode p clear ≡ p
over_clear Normal p neat = normal_clear p neat
over_clear mode p neat = blended_clear mode p

neat_or : (b : Bool) (x y : Pixel) → (b ≡ true → IsNeat x) → (b ≡ false → y.a ≡ 0 → ⊥) → IsNeat (cond b x y)
neat_or true x y px some = px refl
neat_or false x y px some = λ none. absurd (some refl none)

blended_neat : (mode : Mode) (below above : Pixel) → IsNeat below → IsNeat (over_blended mode below above)
blended_neat mode below above neat =
    neat_or (nat_eq (min above.a below.a) 0) below _ (λ e. neat)
    (λ e none. let some : (min above.a below.a ≡ 0 → ⊥) = eqb-false (min above.a below.a) 0 e in some (omega arith))

-- what is laid over a neat pixel leaves it neat
pub over_neat : (mode : Mode) (below above : Pixel) → IsNeat below → IsNeat (over mode below above)
over_neat Normal below above neat =
    let alpha = above.a + mul below.a (255 - above.a) in
    neat_or (nat_eq alpha 0) clear _ (λ e none. refl) (λ e none. eqb-false alpha 0 e none)
over_neat mode below above neat = blended_neat mode below above neat
