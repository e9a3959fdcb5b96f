use Rattle.std.proofs.Common.{◌≡◌, ℕ, ◌+◌, ◌*◌, ◌<◌, slice_index}
use Rattle.xl_paint.proofs.mixing.spread.Given as goal

-- the bytes of the pixels so far have their weights
abbrev pub invariant-loop-k : goal.invariant-loop-k
invariant-loop-k l = (j c : ℕ) → j < l.k → c < l.bpp → slice_index l.out (j * l.bpp + c) ≡ slice_index l.weights j
