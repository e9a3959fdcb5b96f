use Rattle.std.proofs.Common.{refl}
use Rattle.xl_blend.proofs.Products.{rest_of_product}
use Rattle.xl_blend.proofs.lights.soft_light.Goals as goal

pub returns : goal.returns
returns c =
    let rest = rest_of_product c.args.i c.mul_bytes-part.result c.requires.below in
    rw (c.mul_bytes.ensures.exact, c.mul_bytes-2.ensures.exact, c.screen.ensures, rest, c.mul_bytes-part.ensures.exact) refl
