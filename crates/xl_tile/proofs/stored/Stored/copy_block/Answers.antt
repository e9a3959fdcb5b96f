use Rattle.std.proofs.Common.{◌≡◌, ◌+◌, ◌*◌, ◌≤◌, ◌∙◌, ap, length, sym, arith}
use Rattle.std.proofs.Math.Nat.{le_of_mul-le-mul_right}
use Rattle.xl_tile.proofs.stored.Stored.copy_block.Goals as goal

pub join_block-requires-clause-from_down : goal.join_block-requires-clause-from_down
join_block-requires-clause-from_down c =
    let size : length c.args.self.now ≡ c.self.inside.pixels * c.args.block.bpp =
    ap length (sym c.self.view_is) ∙ (c.self.invariant.size ∙ ap (λ bpp. c.self.inside.pixels * bpp) c.if-bpp-block.false.1) in
    let fits : c.args.from.stride * (c.args.from.y + c.args.block.h) * c.args.block.bpp ≤ c.self.inside.pixels * c.args.block.bpp =
    rw size at c.requires.from_down in
    le_of_mul-le-mul_right fits (omega (arith, c.requires.some))
