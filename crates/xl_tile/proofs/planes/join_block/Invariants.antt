use Rattle.std.proofs.Common.{◌≡◌, ℕ, ◌+◌, ◌*◌, ◌<◌, length, slice_index}
use Rattle.spec_hierarchy.specs.Tiles.{interleaved}
use Rattle.xl_tile.specs.Block.{pixel_byte}
use Rattle.xl_tile.specs.Joined.{pieces}
use Rattle.xl_tile.proofs.planes.join_block.Given as goal

-- the rows so far are copied
abbrev pub invariant-loop-r : goal.invariant-loop-r
invariant-loop-r l = record {
  size : length l.out ≡ length l.initial.out;
  each : (x y c : ℕ) → x < l.to.stride → c < l.block.bpp → slice_index l.out ((y * l.to.stride + x) * l.block.bpp + c)
      ≡ pixel_byte l.to l.from l.block.w l.r l.block.bpp (interleaved l.n (pieces l.block.bpp l.n l.planes))
      (slice_index l.initial.out ((y * l.to.stride + x) * l.block.bpp + c)) x y c;
}
