use Rattle.xl_blend.proofs.Laid.{over_by_means}
use Rattle.xl_blend.proofs.normal.over_by.Goals as goal

pub returns : goal.returns
returns c =
    over_by_means c.args.below c.args.above c.of_bytes.result c.args.whole c.mean_by-r.result c.mean_by-g.result c.mean_by-b.result
    c.requires.whole
    (rw (c.wide_of-above.ensures, c.wide_of-below.ensures) at c.mean_by-r.ensures.value)
    (rw (c.wide_of-above.ensures, c.wide_of-below.ensures) at c.mean_by-g.ensures.value)
    (rw (c.wide_of-above.ensures, c.wide_of-below.ensures) at c.mean_by-b.ensures.value)
    c.of_bytes.ensures
