use Rattle.std.proofs.Common.{ℕ, ◌<◌, arith, pos}
use Rattle.std.specs.Prelude.{◌≤ℤ◌}
use Rattle.std.proofs.lemmas.Int.{ints}
use Rattle.spec_document.specs.declared.TheConstants.{MAX_OFFSET}
use Rattle.xl_report.proofs.Chains.{look_is}
use Rattle.xl_report.proofs.look.Look.draw.Goals as goal

pub returns-clause-drawn : goal.returns-clause-drawn
returns-clause-drawn c =
    rw c.mode_at-mode.ensures
    (look_is _ _ _ _ _ _ _ _ _ _ _ c.draw-x.ensures.value c.draw-y.ensures.value c.draw.ensures.value c.draw-2.ensures.value
    c.pixel-pixel.ensures.drawn)

near : (n : ℕ) → n < 512 → pos n ≤ℤ MAX_OFFSET
near n h = omega (arith, ints, h)

pub returns-clause-fits : goal.returns-clause-fits
returns-clause-fits c = record {
  x = near _ c.draw-x.ensures.below;
  y = near _ (omega (arith, c.draw-y.ensures.below));
  opacity = omega (arith, c.draw-2.ensures.below);
  four = c.pixel-pixel.ensures.four;
  bytes = c.pixel-pixel.ensures.bytes;
}
