use Rattle.std.proofs.Common.{◌≡◌, ℕ, ◌-◌, min, ◌∙◌, sym, arith}
use Rattle.std.specs.Simd.Lanes.{zip2}
use lib.ListN.{replicate}
use Rattle.spec_document.specs.Blend.{blend}
use Rattle.xl_blend.proofs.LaneWise.{both, first, second, splat, agreed, small}
use Rattle.xl_blend.proofs.LaneArithmetic.{add16, normal16, multiply16, screen_cut, difference16, addition16, subtract16}
use Rattle.xl_blend.proofs.LaneArithmetic.{darken16, lighten16, extract16, merge16}
use Rattle.xl_blend.proofs.lanes.blends.Goals as goal
use Rattle.xl_blend.proofs.lanes.blends.Goals.{in-Normal, in-Multiply, in-Screen, in-Overlay, in-Difference, in-Addition}
use Rattle.xl_blend.proofs.lanes.blends.Goals.{in-Subtract, in-DarkenOnly, in-LightenOnly, in-HardLight, in-SoftLight}
use Rattle.xl_blend.proofs.lanes.blends.Goals.{in-GrainExtract, in-GrainMerge}

abbrev less : (x y : ℕ) → ℕ
less x y = x - y

pub returns-clause-value : goal.returns-clause-value
returns-clause-value c =
    let i = c.args.i in
    let m = c.args.m in
    let same = c.fits-i.0 ∙ sym c.fits-m.0 in
    let below = first i m same in
    let above = second i m same in
    let i_small = c.requires.below.1 in
    let m_small = c.requires.above.1 in
    let number : (n : ℕ) → replicate 16 n ≡ zip2 (λ x y. n) i m = λ n. splat 16 n i m c.fits-i.0 c.fits-m.0 in
    elim c.match-mode.branch [
      | in-Normal w ↦ rw w.in-Normal.is (w.result-is ∙ above ∙ agreed _ _ _ i m i_small m_small normal16)
      | in-Multiply w ↦
          rw w.in-Multiply.is (w.result-is ∙ w.products.ensures.value ∙ agreed _ _ _ i m i_small m_small multiply16)
      | in-Screen w ↦ rw w.in-Screen.is (w.result-is ∙ w.screens.ensures.value ∙ agreed _ _ _ i m i_small m_small screen_cut)
      | in-Overlay w ↦ rw w.in-Overlay.is (w.result-is ∙ w.overlays.ensures)
      | in-Difference w ↦
          rw w.in-Difference.is (w.result-is
          ∙ both add16 _ _ i m w.less.ensures (w.less-in-Difference.ensures ∙ both less _ _ i m above below)
          ∙ agreed _ _ _ i m i_small m_small difference16)
      | in-Addition w ↦
          rw w.in-Addition.is (w.result-is ∙ w.least.ensures
          ∙ both min _ _ i m (both add16 _ _ i m below above) (number 255)
          ∙ agreed _ _ _ i m i_small m_small addition16)
      | in-Subtract w ↦
          rw w.in-Subtract.is (w.result-is ∙ w.less-in-Subtract.ensures ∙ agreed _ _ _ i m i_small m_small subtract16)
      | in-DarkenOnly w ↦
          rw w.in-DarkenOnly.is (w.result-is ∙ w.least-in-DarkenOnly.ensures ∙ agreed _ _ _ i m i_small m_small darken16)
      | in-LightenOnly w ↦
          rw w.in-LightenOnly.is (w.result-is ∙ w.greatest.ensures ∙ agreed _ _ _ i m i_small m_small lighten16)
      | in-HardLight w ↦ rw w.in-HardLight.is (w.result-is ∙ w.hard_lights.ensures)
      | in-SoftLight w ↦ rw w.in-SoftLight.is (w.result-is ∙ w.soft_lights.ensures)
      | in-GrainExtract w ↦
          rw w.in-GrainExtract.is (w.result-is ∙ w.least-in-GrainExtract.ensures
          ∙ both min _ _ i m
          (w.less-in-GrainExtract.ensures ∙ both less _ _ i m (both add16 _ _ i m below (number 128)) above) (number 255)
          ∙ agreed _ _ _ i m i_small m_small extract16)
      | in-GrainMerge w ↦
          rw w.in-GrainMerge.is (w.result-is ∙ w.least-in-GrainMerge.ensures
          ∙ both min _ _ i m
          (w.less-in-GrainMerge.ensures ∙ both less _ _ i m (both add16 _ _ i m below above) (number 128)) (number 255)
          ∙ agreed _ _ _ i m i_small m_small merge16)
    ]

pub returns-clause-bytes : goal.returns-clause-bytes
returns-clause-bytes c =
    let value = returns-clause-value c in
    rw value (small (blend c.args.mode) c.args.i c.args.m c.requires.below c.requires.above (λ x y _ _. omega arith))
