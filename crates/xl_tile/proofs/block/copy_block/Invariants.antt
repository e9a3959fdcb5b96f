use Rattle.std.proofs.Common.{◌≡◌, ℕ, ◌+◌, ◌*◌, ◌<◌, length, slice_index}
use Rattle.xl_tile.specs.Block.{pixel_byte}
use Rattle.xl_tile.proofs.block.copy_block.Given as goal

-- the rows so far are copied
abbrev pub invariant-loop-r : goal.invariant-loop-r
invariant-loop-r l = record {
  size : length l.out ≡ length l.initial.out;
  each : (x y c : ℕ) → x < l.to.stride → c < l.block.bpp → slice_index l.out ((y * l.to.stride + x) * l.block.bpp + c)
      ≡ pixel_byte l.to l.from l.block.w l.r l.block.bpp l.bytes
      (slice_index l.initial.out ((y * l.to.stride + x) * l.block.bpp + c)) x y c;
}
