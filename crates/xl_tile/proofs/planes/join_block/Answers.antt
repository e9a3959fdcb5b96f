use Rattle.std.proofs.Common.{◌≡◌, ◌+◌, ◌*◌, ◌∙◌, arith}
use Rattle.spec_hierarchy.specs.Tiles.{interleaved}
use Rattle.xl_tile.specs.Joined.{pieces}
use Rattle.xl_tile.proofs.Blocks.{row_more}
use Rattle.xl_tile.proofs.planes.join_block.Goals as goal

pub loop-r-preserved : goal.loop-r-preserved
loop-r-preserved c = record {
  size = omega arith;
  each = λ x y k in_row hk.
      let first : c.row_start-first.result ≡ (c.args.from.y + c.loop-r.r) * c.args.from.stride + c.args.from.x =
      omega (arith, c.row_start-first.ensures.value) in
      let h = c.put_joined.ensures.each ((y * c.args.to.stride + x) * c.args.block.bpp + k) in
      (rw (c.loop-r.invariant.each x y k in_row hk, c.row_start-at.ensures.value, first) at h)
      ∙ row_more c.args.to c.args.from c.args.block.w c.loop-r.r c.args.block.bpp
      (interleaved c.args.n (pieces c.args.block.bpp c.args.n c.args.planes.now)) _ x y k c.requires.to_across in_row hk;
}
