use Rattle.xl_blend.proofs.Products.{screen_by_product}
use Rattle.xl_blend.proofs.lights.screen.Goals as goal

pub returns : goal.returns
returns c = rw c.mul_bytes.ensures.exact (screen_by_product c.args.i c.args.m c.requires.below c.requires.above)
