use Rattle.std.proofs.Common.{◌+◌, ◌*◌, ◌∙◌, arith}
use Rattle.xl_tile.proofs.Blocks.{row_more}
use Rattle.xl_tile.proofs.block.copy_block.Goals as goal

pub loop-r-preserved : goal.loop-r-preserved
loop-r-preserved c = record {
  size = omega arith;
  each = λ x y k in_row hk.
      let h = c.put.ensures.each ((y * c.args.to.stride + x) * c.args.block.bpp + k) in
      (rw (c.loop-r.invariant.each x y k in_row hk, c.row_start-at.ensures.value, c.row_start-first.ensures.value) at h)
      ∙ row_more c.args.to c.args.from c.args.block.w c.loop-r.r c.args.block.bpp c.args.bytes.now _ x y k c.requires.to_across
      in_row hk;
}
