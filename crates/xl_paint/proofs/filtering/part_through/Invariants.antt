use Rattle.std.proofs.Common.{◌≡◌, ℕ, slice_index}
use Rattle.xl_tiles.specs.Block.{byte_after}
use Rattle.xl_paint.proofs.filtering.part_through.Given as goal

-- the bytes so far went through the table
abbrev pub invariant-loop-c : goal.invariant-loop-c
invariant-loop-c l = (k : ℕ) → slice_index l.bytes k
    ≡ byte_after l.at l.c (slice_index l.initial.bytes k) (slice_index l.table (slice_index l.initial.bytes k)) k
