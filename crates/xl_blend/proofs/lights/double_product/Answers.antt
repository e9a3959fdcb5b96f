use Rattle.xl_blend.proofs.Products.{double_by_shifts, double_part}
use Rattle.xl_blend.proofs.lights.double_product.Goals as goal

pub returns-clause-exact : goal.returns-clause-exact
returns-clause-exact c = double_by_shifts c.args.a c.args.b c.requires.left c.requires.right

pub returns-clause-part_of_right : goal.returns-clause-part_of_right
returns-clause-part_of_right c =
    rw (double_by_shifts c.args.a c.args.b c.requires.left c.requires.right) (double_part c.args.a c.args.b c.requires.left)
