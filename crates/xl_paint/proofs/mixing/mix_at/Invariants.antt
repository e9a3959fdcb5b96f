use Rattle.std.proofs.Common.{◌≡◌, ℕ, ◌-◌, slice_index}
use Rattle.spec_edit.specs.Effect.{mixed}
use Rattle.xl_tiles.specs.Block.{byte_after}
use Rattle.xl_paint.proofs.mixing.mix_at.Given as goal

-- the bytes so far are mixed
abbrev pub invariant-loop-k : goal.invariant-loop-k
invariant-loop-k l = (k : ℕ) → slice_index l.bytes k
    ≡ byte_after l.at l.k (slice_index l.initial.bytes k)
    (mixed (slice_index l.weights (k - l.at)) (slice_index l.new (k - l.at)) (slice_index l.initial.bytes k)) k
