use Rattle.std.proofs.Common.{◌≡◌, ℕ, slice_index}
use Rattle.xl_tiles.specs.Block.{byte_after}
use Rattle.xl_paint.proofs.mixing.fill_part.Given as goal

-- the bytes so far have the value
abbrev pub invariant-loop-c : goal.invariant-loop-c
invariant-loop-c l = (k : ℕ) → slice_index l.out k ≡ byte_after l.at l.c (slice_index l.initial.out k) l.value k
