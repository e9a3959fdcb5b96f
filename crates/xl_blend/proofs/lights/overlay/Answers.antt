use Rattle.xl_blend.proofs.Products.{overlay_fits}
use Rattle.xl_blend.proofs.lights.overlay.Goals as goal

pub small_product-requires : goal.small_product-requires
small_product-requires c = overlay_fits c.args.i c.double_product.result c.requires.below c.double_product.ensures.part_of_right
