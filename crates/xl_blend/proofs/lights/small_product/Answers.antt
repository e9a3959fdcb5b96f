use Rattle.xl_blend.proofs.Products.{small_by_shifts}
use Rattle.xl_blend.proofs.lights.small_product.Goals as goal

pub returns : goal.returns
returns c = small_by_shifts c.args.a c.args.b c.requires
