use Rattle.std.proofs.Common.{◌∙◌, refl}
use Rattle.xl_blend.proofs.fours.over_four.Goals as goal

pub returns-clause-value : goal.returns-clause-value
returns-clause-value c =
    c.opaque_of.ensures
    ∙ rw (
      c.mixes.ensures.value,
      c.alphas_of.ensures.value,
      c.blends-blended.ensures.value,
      c.lanes_of-lower.ensures.value,
      c.lanes_of.ensures.value,
    ) refl
